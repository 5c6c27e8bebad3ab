use Rattle.std.proofs.Common.{rules, ◌≡◌, ◌++◌, [], ◌∷◌, sym, ◌∙◌, append-nil, append_assoc}
use Rattle.std.proofs.lemmas.List.{nil_from_length}
use Rattle.std.specs.Vec.Iter.{into_iter_items}
use Rattle.link_pump.proofs.Sending.{lasts_on}
use Rattle.link_pump.proofs.outlet.Outlet.keep_all.Goals as goal

pub loop-text-preserved : goal.loop-text-preserved
loop-text-preserved g c = record {
  any = λ start now made was.
      let k = c.loop-text.invariant.any start now made was in
      (k.0 ++ c.in-Some.text ∷ [], append_assoc k.0 (c.in-Some.text ∷ []) _ ∙ rw c.in-Some.ensures.steps.0 at k.1, c.keep_or_lose.ensures.any start now k.0 k.2);
  link = c.keep_or_lose.ensures.link ∙ c.loop-text.invariant.link;
  over = lasts_on _ _ _ c.loop-text.invariant.over c.keep_or_lose.ensures.over;
  left = search rules;
}

pub returns-clause-any : goal.returns-clause-any
returns-clause-any g c = λ start now made was.
    let k = c.loop-text.invariant.any start now made was in
    let gone : into_iter_items c.loop-text.text-iterator ≡ [] = nil_from_length _ (sym c.loop-text.invariant.left ∙ c.in-None.ensures.steps.0) in
    let all : k.0 ≡ made ++ c.args.texts.items = simp (gone, append-nil) at k.1 in
    rw (← all) k.2
