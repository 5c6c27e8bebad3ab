use Rattle.block_net.proofs.WalkSteps.{grown_twice}
use Rattle.block_net.proofs.BindSteps.{picked_keys, picked_bind}
use Rattle.block_net.proofs.bindings.pick.Goals as goal

pub loop-key-preserved : goal.loop-key-preserved
loop-key-preserved c = record {
  grown = grown_twice _ _ _ c.loop-key.invariant.grown c.in_ok-pending.ensures.grown;
  keys = picked_keys _ _ _ _ _ _ _ c.loop-key-test.true c.key-item.is c.in_ok-key.ensures c.in_ok-push.ensures.items c.loop-key.invariant.keys;
  bind = picked_bind _ _ _ _ _ _ _ _ c.loop-key.invariant.grown c.in_ok-pending.ensures.grown.terms c.in_ok-key.ensures c.in_ok-push.ensures.items c.in_ok-pending.ensures.stands c.loop-key.invariant.bind;
}
