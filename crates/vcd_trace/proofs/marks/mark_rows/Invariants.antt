use Rattle.std.proofs.Common.{take}
use Rattle.std.specs.List.{list_any}
use Rattle.vcd_trace.specs.Named.{row_names}
use Rattle.vcd_trace.specs.Marked.{Marks}
use Rattle.vcd_trace.proofs.marks.mark_rows.Given as goal

-- the nodes of the front are marked
abbrev pub invariant-loop-row : goal.invariant-loop-row
invariant-loop-row l = Marks l.initial.marks l.marks (λ n. list_any (row_names n) (take l.row-index l.rows))
