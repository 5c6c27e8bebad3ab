use Rattle.std.proofs.Common.{◌≡◌, ◌<◌, ℕ, Some}
use Rattle.std.specs.Prelude.{slice_get}
use Rattle.trace_core.specs.Samples.{HasWidth}
use Rattle.trace_world.specs.Fitting.{widths_of}
use Rattle.trace_fits.proofs.fitting.fits.Given as goal

abbrev pub invariant-loop-cycle : goal.invariant-loop-cycle
invariant-loop-cycle g l =
    (g.T.Trace.samples l.trace ≡ g.T.Trace.samples l.fn.trace)
    × ((cycle node w : ℕ) → cycle < l.cycle → slice_get (widths_of l.table) node ≡ Some w → HasWidth w ((g.T.Trace.samples l.trace).sample cycle node))
