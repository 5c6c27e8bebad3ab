use Rattle.std.proofs.Common.{◌≡◌, length, take}
use Rattle.std.specs.List.{enumerate_from, flat_map}
use Rattle.lower_core.specs.Rows.{AreTold}
use Rattle.ssa_core.specs.Processes.{lists_of}
use Rattle.ssa_nodes.specs.Parts.{HasState, design_in}
use Rattle.term_net.specs.Growth.{Grown}
use Rattle.row_net.specs.Blocks.{first_number}
use Rattle.row_net.specs.Spots.{instance_spots}
use Rattle.row_net.proofs.rows.rows_by_instance.Given as goal

abbrev pub invariant-loop-number : goal.invariant-loop-number
invariant-loop-number l = record {
  state : HasState l.parts l.builder l.nodes (lists_of l.memos);
  grown : Grown l.initial.builder l.builder;
  first : l.first ≡ first_number (design_in l.parts) l.number;
  told : AreTold (design_in l.parts) (length l.parts.order.now) l.builder (flat_map (instance_spots (design_in l.parts)) (enumerate_from 0 (take l.number (design_in l.parts).instances))) l.rows.items;
}
