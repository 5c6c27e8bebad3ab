use Rattle.std.proofs.Common.{take}
use Rattle.names.specs.Maps.{value_of}
use Rattle.place_core.specs.Assigned.{names_at}
use Rattle.term_net.specs.Growth.{Grown}
use Rattle.term_net.specs.Memos.{Fits}
use Rattle.row_net.specs.Told.{CellsPut, names_by}
use Rattle.row_net.proofs.cells.put_cells.Given as goal

abbrev pub invariant-loop-name : goal.invariant-loop-name
invariant-loop-name l = record {
  fits : Fits l.builder (value_of l.places) l.nodes l.block.terms l.memo;
  grown : Grown l.initial.builder l.builder;
  put : CellsPut l.initial.builder l.builder (value_of l.places) l.nodes (names_by l.block.terms (value_of l.held)) (names_at (take l.name-index l.names)) l.initial.cells.items l.cells.items;
}
