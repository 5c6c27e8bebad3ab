use Rattle.std.proofs.Common.{length, map, take}
use Rattle.design_core.specs.View.{block_of}
use Rattle.ssa_core.specs.Processes.{lists_of}
use Rattle.ssa_nodes.specs.Parts.{HasState, design_in}
use Rattle.term_net.specs.Growth.{Grown}
use Rattle.row_net.specs.Blocks.{SpotsPut, blocks_spots}
use Rattle.row_net.proofs.rows.put_instance.Given as goal

abbrev pub invariant-loop-place : goal.invariant-loop-place
invariant-loop-place l = record {
  state : HasState l.parts l.builder l.nodes (lists_of l.memos);
  grown : Grown l.initial.builder l.builder;
  put : SpotsPut (design_in l.parts) (length l.parts.order.now) l.initial.builder l.builder (blocks_spots (design_in l.parts) l.number l.variant (map block_of (take l.place l.blocks))) l.initial.rows.items l.rows.items;
}
