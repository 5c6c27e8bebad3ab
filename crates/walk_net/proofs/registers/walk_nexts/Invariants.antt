use Rattle.std.proofs.Common.{◌≡◌, ◌-◌, [], List, length}
use Rattle.tree_core.specs.Tree.{Whole}
use Rattle.net_core.specs.Nodes.{trees_of}
use Rattle.walk_net.specs.Next.{next_whole}
use Rattle.walk_net.specs.Registers.{Ends}
use Rattle.walk_net.specs.Renaming.{AreCopies}
use Rattle.walk_net.proofs.registers.walk_nexts.Given as goal

abbrev pub invariant-loop-place : goal.invariant-loop-place
invariant-loop-place l = record {
  copies : AreCopies l.net.nodes l.builder l.ids l.origins.items;
  none : l.tasks.items ≡ [];
  ends : (us : List Whole) → Ends (next_whole l.net) l.place (trees_of l.builder) us → Ends (next_whole l.net) 0 (trees_of l.initial.builder) us;
}

abbrev pub decreases-loop-place : goal.decreases-loop-place
decreases-loop-place l = length l.net.nodes - l.place
