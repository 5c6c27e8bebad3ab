use Rattle.std.proofs.Common.{◌≡◌, length, map, take}
use Rattle.design_core.specs.View.{conn_of}
use Rattle.graph_order.specs.Graphs.{IsGraph}
use Rattle.names.specs.Maps.{value_of}
use Rattle.dep_order.specs.Wiring.{DrivesConns, StaysLayered}
use Rattle.dep_order.proofs.wiring.drive_conns.Given as goal

abbrev pub invariant-loop-conn : goal.invariant-loop-conn
invariant-loop-conn l = record {
  graph : IsGraph l.graph;
  count : length l.graph ≡ length l.initial.graph;
  layers : StaysLayered l.initial.graph l.graph (value_of l.child);
  drives : DrivesConns l.initial.graph l.initial.driven l.graph l.driven (value_of l.child) (value_of l.parent) (map conn_of (take l.conn-index l.conns));
}
