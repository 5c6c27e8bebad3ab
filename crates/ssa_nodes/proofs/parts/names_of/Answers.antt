use Rattle.std.proofs.Common.{◌≤◌, length, refl, sym, ap, ◌∙◌, subst}
use Rattle.std.specs.Prelude.{slice_get}
use Rattle.std.proofs.lemmas.Option.{slice_get_read}
use Rattle.ssa_nodes.proofs.Looking.{names_some, names_none}
use Rattle.ssa_nodes.proofs.parts.names_of.Goals as goal

pub returns-in-Some : goal.returns-in-Some
returns-in-Some c =
    let l = c.in-Some.ensures.lookup in
    names_some c.args.parts.now.maps.items c.args.instance c.in-Some.map.now
    (sym (ap (λ ms. slice_get ms c.args.instance) c.deref.ensures.value) ∙ slice_get_read c.deref.result.now (length c.deref.result.now) c.args.instance c.in-Some.map.now refl l.3.0 l.1)

pub returns-in-None : goal.returns-in-None
returns-in-None c =
    let l = c.in-None.ensures.lookup in
    names_none c.args.parts.now.maps.items c.args.instance c.args.parts.now.nobody (subst (λ ms. length ms ≤ c.args.instance) c.deref.ensures.value l.3) c.requires.nobody
