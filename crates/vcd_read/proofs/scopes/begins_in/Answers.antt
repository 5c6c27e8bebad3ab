use Rattle.std.proofs.Common.{◌≡◌, ◌<◌, ◌++◌, ◌∷◌, List, ℕ, length, take, sym, ap, ◌∙◌, subst, arith}
use Rattle.std.proofs.lemmas.List.{length-take-le, take-append-drop}
use Rattle.vcd_read.specs.Nesting.{Begins}
use Rattle.vcd_read.proofs.BeginLemmas.{begins-rest, begins-both, path_in-some}
use Rattle.vcd_read.proofs.scopes.begins_in.Goals as goal

pub returns : goal.returns
returns c =
    let text = c.args.text.now in
    let front : List ℕ = take c.args.around text in
    let rest = c.split_at.result.1.now in
    let split : text ≡ front ++ rest = sym (ap (λ rest. front ++ rest) c.split_at.ensures.back ∙ take-append-drop c.args.around text) in
    let some : 0 < length front = omega (arith, length-take-le c.args.around text c.requires) in
    let P : List ℕ → Type 0 = λ path. Begins path text in
    let same = path_in-some front c.args.name.now some in (
      λ h. subst P (sym same) (begins-both front (46 ∷ c.args.name.now) rest text split (c.begins_dotted.ensures.0 h)),
      λ e. c.begins_dotted.ensures.1 (begins-rest front (46 ∷ c.args.name.now) rest text split (subst P same e)),
    )
