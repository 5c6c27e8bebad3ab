use Rattle.std.proofs.Common.{◌≡◌, ◌∷◌, [], ℕ, map, ap, sym, ◌∙◌, subst}
use Rattle.std.specs.Prelude.{bytes_eq}
use Rattle.std.proofs.lemmas.List.{length-map}
use Rattle.vcd_read.specs.Head.{Var}
use Rattle.vcd_read.specs.Meaning.{Meaning}
use Rattle.vcd_read.specs.Scopes.{places_from}
use Rattle.vcd_read.specs.Nesting.{Scope, paths_of, ArePlaced}
use Rattle.vcd_read.proofs.PlaceLemmas.{places-marked}
use Rattle.vcd_read.proofs.vcd.Vcd.vars_in.Goals as goal

pub returns : goal.returns
returns c =
    let s = c.self.inside in
    let paths = paths_of s.scopes in
    let text = c.args.scope.now in
    let P : ℕ → Type 0 = λ count. ArePlaced count s.vars in
    let within = subst P (sym (length-map s.scopes (λ (scope : Scope). scope.path))) c.self.invariant.0 in
    let marks : c.deref.result.now ≡ map (λ other. bytes_eq other text) ([] ∷ paths) =
    c.deref.ensures.value ∙ c.in_ok-marks.ensures ∙ ap (λ bytes. map (λ other. bytes_eq other bytes) ([] ∷ paths)) c.as_bytes.ensures.value in
    c.in_ok-places.ensures ∙ places-marked paths s.vars text c.deref.result.now 0 within marks
    ∙ ap (λ (told : Meaning). places_from 0 (λ (var : Var). bytes_eq var.scope text) told.vars) c.self.view_is
