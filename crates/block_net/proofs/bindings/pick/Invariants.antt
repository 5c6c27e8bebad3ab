use Rattle.std.proofs.Common.{◌≡◌, take}
use Rattle.block_net.specs.Walks.{Bind, Grown, among, keys_of, state_of}
use Rattle.block_net.proofs.bindings.pick.Given as goal

-- the keys so far, with what is pending for them
abbrev pub invariant-loop-key : goal.invariant-loop-key
invariant-loop-key l = record {
  grown : Grown l.initial.walk l.walk;
  keys : among (keys_of l.bindings.items) ≡ among (take l.key-index l.keys);
  bind : Bind l.walk.terms (state_of l.initial.walk) l.bindings.items;
}
