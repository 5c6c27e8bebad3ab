use Rattle.std.proofs.Common.{rules, ◌≡◌, ◌++◌, [], ◌∷◌, sym, ◌∙◌, append-nil, append_assoc}
use Rattle.std.proofs.lemmas.List.{nil_from_length}
use Rattle.std.specs.Vec.Iter.{into_iter_items}
use Rattle.link_pump.proofs.Sending.{lasts_on}
use Rattle.link_pump.proofs.outlet.Outlet.deliver_all.Goals as goal

pub loop-text-preserved : goal.loop-text-preserved
loop-text-preserved g c = record {
  keeps = λ start made was.
      let k = c.loop-text.invariant.keeps start made was in
      (k.0 ++ c.in-Some.text ∷ [], append_assoc k.0 (c.in-Some.text ∷ []) _ ∙ rw c.in-Some.ensures.steps.0 at k.1, c.deliver.ensures.keeps start k.0 k.2);
  received = c.deliver.ensures.received ∙ c.loop-text.invariant.received;
  over = lasts_on _ _ _ c.loop-text.invariant.over c.deliver.ensures.over;
  usable = c.deliver.ensures.shut;
  left = search rules;
}

pub returns-clause-keeps : goal.returns-clause-keeps
returns-clause-keeps g c = λ start made was.
    let k = c.loop-text.invariant.keeps start made was in
    let gone : into_iter_items c.loop-text.text-iterator ≡ [] = nil_from_length _ (sym c.loop-text.invariant.left ∙ c.in-None.ensures.steps.0) in
    let all : k.0 ≡ made ++ c.args.texts.items = simp (gone, append-nil) at k.1 in
    rw (← all) k.2
