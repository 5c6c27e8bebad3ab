use Rattle.block_net.proofs.TermLists.{extends_twice}
use Rattle.block_net.proofs.WalkSteps.{grown_twice}
use Rattle.block_net.proofs.BindSteps.{choose_one, chosen_keys, chosen_within, chooses_of, have_push}
use Rattle.block_net.proofs.bindings.choose.Goals as goal

pub choice-requires-clause-first : goal.choice-requires-clause-first
choice-requires-clause-first c =
    chosen_within _ _ _ _ _ (extends_twice _ _ _ c.loop-first.invariant.grown.terms c.in_ok-second.ensures.grown.terms) c.requires.within c.loop-first-test.true c.first-item.is

pub loop-first-preserved : goal.loop-first-preserved
loop-first-preserved c = record {
  grown = grown_twice _ _ _ c.loop-first.invariant.grown (grown_twice _ _ _ c.in_ok-second.ensures.grown c.in_ok-pending.ensures.grown);
  keys = chosen_keys _ _ _ _ _ _ _ c.loop-first-test.true c.first-item.is c.in_ok-key.ensures c.in_ok-push.ensures.items c.loop-first.invariant.keys;
  have = have_push _ _ _ _ _ _ (extends_twice _ _ _ c.in_ok-second.ensures.grown.terms c.in_ok-pending.ensures.grown.terms) c.in_ok-push.ensures.items c.in_ok-pending.ensures.stands.within c.loop-first.invariant.have;
  chooses = choose_one _ _ _ _ _ _ _ _ _ _ _ _ _ c.loop-first-test.true c.first-item.is c.requires.test c.loop-first.invariant.grown c.in_ok-second.ensures.grown c.in_ok-pending.ensures.grown c.in_ok-key.ensures c.in_ok-push.ensures.items c.in_ok-second.ensures.stands c.in_ok-pending.ensures.stands c.loop-first.invariant.chooses;
}

pub returns-clause-chooses : goal.returns-clause-chooses
returns-clause-chooses c = chooses_of c.args.walk.now c.loop-first.walk _ _ _ _ c.loop-first-test.false c.loop-first.invariant.chooses
