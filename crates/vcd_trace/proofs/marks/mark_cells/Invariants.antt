use Rattle.std.proofs.Common.{take}
use Rattle.std.specs.List.{list_any}
use Rattle.vcd_trace.specs.Named.{cell_names}
use Rattle.vcd_trace.specs.Marked.{Marks}
use Rattle.vcd_trace.proofs.marks.mark_cells.Given as goal

-- the nodes of the front are marked
abbrev pub invariant-loop-place : goal.invariant-loop-place
invariant-loop-place l = Marks l.initial.marks l.marks (λ n. list_any (cell_names n) (take l.place l.cells))
