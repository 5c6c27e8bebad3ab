use Rattle.std.proofs.Common.{◌≡◌, take}
use Rattle.block_net.specs.Walks.{Chooses, Grown, HaveTerms, among, keys_of}
use Rattle.block_net.proofs.bindings.choose.Given as goal

-- the choices so far
abbrev pub invariant-loop-first : goal.invariant-loop-first
invariant-loop-first l = record {
  grown : Grown l.initial.walk l.walk;
  keys : among (keys_of l.bindings.items) ≡ among (keys_of (take l.first-index l.firsts));
  have : HaveTerms l.walk.terms l.bindings.items;
  chooses : Chooses l.test (take l.first-index l.firsts) l.bindings.items l.initial.walk l.walk;
}
