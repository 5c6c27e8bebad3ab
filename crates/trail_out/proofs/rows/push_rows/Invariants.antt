use Rattle.std.proofs.Common.{◌≡◌, ◌++◌, drop}
use Rattle.trail_out.specs.Texts.{rows_text}
use Rattle.trail_out.specs.Written.{samples_at}
use Rattle.trail_out.proofs.rows.push_rows.Given as goal

-- the rows so far, and those that are left, are all of them
abbrev pub invariant-loop-place : goal.invariant-loop-place
invariant-loop-place g l =
    l.text.items ++ rows_text l.cycle (samples_at (g.T.Trace.samples l.trace) (g.T.Trace.cursor l.trace)) l.parts l.slot (drop l.place l.instances) (drop l.place l.slot.rows)
    ≡ l.initial.text.items ++ rows_text l.cycle (samples_at (g.T.Trace.samples l.trace) (g.T.Trace.cursor l.trace)) l.parts l.slot l.instances l.slot.rows
