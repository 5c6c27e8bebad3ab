use Rattle.std.proofs.Common.{◌≡◌, take}
use Rattle.block_net.specs.Sets.{IsKept, KeysMore}
use Rattle.block_net.specs.Walks.{among, either}
use Rattle.block_net.proofs.key_set.KeySet.add_all.Given as goal

-- those so far
abbrev pub invariant-loop-key : goal.invariant-loop-key
invariant-loop-key l = record {
  kept : IsKept l.self;
  more : KeysMore l.initial.self l.self;
  keys : among l.self.keys.items ≡ either (among l.initial.self.keys.items) (among (take l.key-index l.keys));
}
