use Rattle.std.proofs.Common.{◌≡◌, ◌++◌, drop}
use Rattle.trail_out.specs.Texts.{cells_text}
use Rattle.trail_out.specs.Written.{samples_at}
use Rattle.trail_out.proofs.line.push_cells.Given as goal

-- the cells so far, and those that are left, are all of them
abbrev pub invariant-loop-place : goal.invariant-loop-place
invariant-loop-place g l =
    l.text.items ++ cells_text (samples_at (g.T.Trace.samples l.trace) (g.T.Trace.cursor l.trace)) (drop l.place l.names) (drop l.place l.cells)
    ≡ l.initial.text.items ++ cells_text (samples_at (g.T.Trace.samples l.trace) (g.T.Trace.cursor l.trace)) l.names l.cells
