use Rattle.block_net.proofs.SetSteps.{add_start, add_next, add_end, more_none, more_twice}
use Rattle.block_net.proofs.key_set.KeySet.add_all.Goals as goal

pub loop-key-init : goal.loop-key-init
loop-key-init c = record { kept = c.requires; more = more_none c.args.self.now; keys = add_start c.args.self.now.keys.items }

pub loop-key-preserved : goal.loop-key-preserved
loop-key-preserved c = record {
  kept = c.in_ok-add.ensures.kept;
  more = more_twice _ _ _ c.loop-key.invariant.more c.in_ok-add.ensures.more;
  keys = add_next _ _ _ _ _ _ c.loop-key-test.true c.key-item.is c.loop-key.invariant.keys c.in_ok-add.ensures.keys;
}

pub returns-clause-keys : goal.returns-clause-keys
returns-clause-keys c = add_end _ _ _ _ c.loop-key-test.false c.loop-key.invariant.keys
