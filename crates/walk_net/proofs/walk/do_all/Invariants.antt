use Rattle.std.proofs.Common.{◌≡◌}
use Rattle.net_core.specs.Nodes.{trees_of}
use Rattle.walk_net.specs.Tasks.{all_done, CanDoAll, work}
use Rattle.walk_net.specs.Renaming.{AreCopies}
use Rattle.walk_net.proofs.walk.do_all.Given as goal

abbrev pub invariant-loop-task : goal.invariant-loop-task
invariant-loop-task l = record {
  copies : AreCopies l.net.nodes l.builder l.ids l.origins.items;
  can : CanDoAll l.net.nodes l.tasks.items (trees_of l.builder);
  done : all_done l.net.nodes l.tasks.items (trees_of l.builder) ≡ all_done l.net.nodes l.initial.tasks.items (trees_of l.initial.builder);
}

abbrev pub decreases-loop-task : goal.decreases-loop-task
decreases-loop-task l = work l.tasks.items
