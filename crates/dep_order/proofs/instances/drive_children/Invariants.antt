use Rattle.std.proofs.Common.{◌≡◌, length, map, take}
use Rattle.std.specs.List.{enumerate_from, flat_map}
use Rattle.design_core.specs.View.{child_of}
use Rattle.graph_order.specs.Graphs.{IsGraph}
use Rattle.place_core.specs.Numbering.{numbers_of}
use Rattle.dep_order.specs.Linking.{AllLayered, DrivesLinks}
use Rattle.place_core.specs.Linking.{links_of_child}
use Rattle.dep_order.proofs.instances.drive_children.Given as goal

abbrev pub invariant-loop-place : goal.invariant-loop-place
invariant-loop-place l = record {
  graph : IsGraph l.graph;
  count : length l.graph ≡ length l.initial.graph;
  layers : AllLayered l.initial.graph l.graph (numbers_of l.maps);
  drives : DrivesLinks l.initial.graph l.initial.driven l.graph l.driven (numbers_of l.maps) (flat_map (links_of_child l.instance l.below) (enumerate_from 0 (map child_of (take l.place l.children))));
}
