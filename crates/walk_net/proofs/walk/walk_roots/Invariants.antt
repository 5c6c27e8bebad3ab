use Rattle.std.proofs.Common.{◌≡◌, [], drop}
use Rattle.list_core.specs.Lists.{EachOf}
use Rattle.exec_core.specs.Kept.{walk_all}
use Rattle.net_core.specs.Nodes.{trees_of}
use Rattle.walk_net.specs.Next.{trees_by}
use Rattle.walk_net.specs.Renaming.{AreCopies, IsNode}
use Rattle.walk_net.proofs.walk.walk_roots.Given as goal

abbrev pub invariant-loop-root : goal.invariant-loop-root
invariant-loop-root l = record {
  copies : AreCopies l.net.nodes l.builder l.ids l.origins.items;
  none : l.tasks.items ≡ [];
  roots : EachOf (IsNode l.net.nodes) (drop l.root-index l.roots);
  walked : walk_all (trees_by l.net.nodes (drop l.root-index l.roots)) (trees_of l.builder) ≡ walk_all (trees_by l.net.nodes l.roots) (trees_of l.initial.builder);
}
