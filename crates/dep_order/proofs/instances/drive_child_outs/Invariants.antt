use Rattle.std.proofs.Common.{◌≡◌, length, take}
use Rattle.std.specs.List.{flat_map}
use Rattle.design_core.specs.declared.variant.Signal.{Signal}
use Rattle.graph_order.specs.Graphs.{IsGraph}
use Rattle.place_core.specs.Numbering.{numbers_of}
use Rattle.dep_order.specs.Linking.{AllLayered, DrivesLinks}
use Rattle.place_core.specs.Linking.{link_of_output}
use Rattle.dep_order.proofs.instances.drive_child_outs.Given as goal

abbrev pub invariant-loop-signal : goal.invariant-loop-signal
invariant-loop-signal l = record {
  graph : IsGraph l.graph;
  count : length l.graph ≡ length l.initial.graph;
  layers : AllLayered l.initial.graph l.graph (numbers_of l.maps);
  drives : DrivesLinks l.initial.graph l.initial.driven l.graph l.driven (numbers_of l.maps) (flat_map (λ (s : Signal). link_of_output l.instance l.below s.name s.kind) (take l.signal-index l.signals));
}
