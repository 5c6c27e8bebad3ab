use Rattle.std.proofs.Common.{◌≡◌, drop, map}
use Rattle.design_exec.specs.Processes.{value_of}
use Rattle.block_net.specs.Cases.{or_literals}
use Rattle.block_net.specs.Terms.{IsWithin, tree_for}
use Rattle.block_net.specs.Walks.{Grown}
use Rattle.block_net.proofs.walk.Walk.or_literals.Given as goal

-- what is left makes the whole
abbrev pub invariant-loop-literal : goal.invariant-loop-literal
invariant-loop-literal l = record {
  grown : Grown l.initial.self l.self;
  within : IsWithin l.self.terms l.found;
  left : or_literals (tree_for l.self.terms l.found) (tree_for l.initial.self.terms l.value) (map value_of (drop l.literal-index l.literals)) ≡ or_literals (tree_for l.initial.self.terms l.fn.test) (tree_for l.initial.self.terms l.value) (map value_of l.literals);
}
