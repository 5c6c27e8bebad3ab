use Rattle.trace_fits.proofs.Widths.{HaveWidths}
use Rattle.trace_fits.proofs.fitting.cycle_fits.Given as goal

abbrev pub invariant-loop-n : goal.invariant-loop-n
invariant-loop-n g l = HaveWidths l.nodes ((g.T.Trace.samples l.trace).sample l.cycle) l.n
