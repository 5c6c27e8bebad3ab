use Rattle.std.proofs.Common.{subst, sym}
use Rattle.trace_core.specs.Samples.{HasWidth}
use Rattle.trace_fits.proofs.Widths.{one_more, all_nodes, one_differs}
use Rattle.trace_fits.proofs.fitting.cycle_fits.Goals as goal

pub returns-then-not-has_width-clause-other : goal.returns-then-not-has_width-clause-other
returns-then-not-has_width-clause-other g c = λ e have.
    one_differs c.args.nodes.now ((g.T.Trace.samples c.args.trace.now).sample c.args.cycle) c.loop-n.n c.index-nodes-n.result c.loop-n-test.true c.index-nodes-n.is
    (λ h. c.has_width.ensures.other c.if-not-has_width.true (subst (HasWidth c.index-nodes-n.result.width) (sym c.sample_at.ensures) h)) have

pub loop-n-preserved : goal.loop-n-preserved
loop-n-preserved g c =
    one_more c.args.nodes.now ((g.T.Trace.samples c.args.trace.now).sample c.args.cycle) c.loop-n.n c.index-nodes-n.result c.loop-n-test.true c.index-nodes-n.is
    (subst (HasWidth c.index-nodes-n.result.width) c.sample_at.ensures (c.has_width.ensures.fits c.if-not-has_width.false)) c.loop-n.invariant

pub returns-clause-fits : goal.returns-clause-fits
returns-clause-fits g c = λ e. all_nodes c.args.nodes.now ((g.T.Trace.samples c.args.trace.now).sample c.args.cycle) c.loop-n.n c.loop-n-test.false c.loop-n.invariant
