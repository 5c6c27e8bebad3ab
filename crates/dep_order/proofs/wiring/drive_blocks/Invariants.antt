use Rattle.std.proofs.Common.{◌≤◌, length, map, take}
use Rattle.design_core.specs.View.{block_of}
use Rattle.graph_order.specs.Graphs.{IsGraph}
use Rattle.names.specs.Maps.{value_of}
use Rattle.dep_order.specs.Wiring.{DrivesBlocks, StaysLayered}
use Rattle.dep_order.proofs.wiring.drive_blocks.Given as goal

abbrev pub invariant-loop-place : goal.invariant-loop-place
invariant-loop-place l = record {
  graph : IsGraph l.graph;
  longer : length l.initial.graph ≤ length l.graph;
  layers : StaysLayered l.initial.graph l.graph (value_of l.numbers);
  drives : DrivesBlocks l.initial.graph l.initial.driven l.graph l.driven (value_of l.numbers) l.terms (map block_of (take l.place l.blocks));
}
