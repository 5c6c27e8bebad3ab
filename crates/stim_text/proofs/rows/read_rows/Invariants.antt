use Rattle.std.proofs.Common.{◌≡◌, ◌+◌, length}
use Rattle.std.specs.Str.Lines.{lines}
use Rattle.stim_text.specs.Rows.{rows_from}
use Rattle.stim_text.proofs.RowLists.{IsRead}
use Rattle.stim_text.proofs.rows.read_rows.Given as goal

-- the rows so far, and the lines that are left
abbrev pub invariant-loop-line : goal.invariant-loop-line
invariant-loop-line l =
    (l.row + length (lines l.rest) ≡ length (lines l.fn.text))
    × IsRead l.inputs l.row l.values.items (lines l.rest) (rows_from 0 l.inputs (lines l.fn.text))

abbrev pub decreases-loop-line : goal.decreases-loop-line
decreases-loop-line l = length l.rest
