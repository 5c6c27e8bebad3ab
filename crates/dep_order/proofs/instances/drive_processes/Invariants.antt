use Rattle.std.proofs.Common.{◌≤◌, length, take}
use Rattle.std.specs.List.{enumerate_from, flat_map}
use Rattle.design_core.specs.DesignView.{design_of}
use Rattle.design_exec.specs.Processes.{processes_at}
use Rattle.graph_order.specs.Graphs.{IsGraph}
use Rattle.place_core.specs.Numbering.{numbers_of}
use Rattle.dep_order.specs.Linking.{AllLayered, DrivesProcesses}
use Rattle.dep_order.proofs.instances.drive_processes.Given as goal

abbrev pub invariant-loop-number : goal.invariant-loop-number
invariant-loop-number l = record {
  graph : IsGraph l.graph;
  longer : length l.initial.graph ≤ length l.graph;
  layers : AllLayered l.initial.graph l.graph (numbers_of l.maps);
  drives : DrivesProcesses l.initial.graph l.initial.driven l.graph l.driven (numbers_of l.maps) (flat_map (processes_at (design_of l.design)) (enumerate_from 0 (take l.number l.design.instances)));
}
