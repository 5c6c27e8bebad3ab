use Rattle.std.proofs.Common.{◌≡◌, ◌++◌, drop}
use Rattle.site_core.specs.Sampled.{cycle_samples}
use Rattle.dbg_core.specs.Shown.{cells_shown}
use Rattle.dbg_core.proofs.sampled.values_of.Given as goal

-- the values so far, and those that are left, are all of them
abbrev pub invariant-loop-place : goal.invariant-loop-place
invariant-loop-place g l =
    l.values.items ++ cells_shown (cycle_samples (g.T.Trace.samples l.trace) (g.T.Trace.cursor l.trace)) (drop l.place l.names) (drop l.place l.cells)
    ≡ cells_shown (cycle_samples (g.T.Trace.samples l.trace) (g.T.Trace.cursor l.trace)) l.names l.cells
