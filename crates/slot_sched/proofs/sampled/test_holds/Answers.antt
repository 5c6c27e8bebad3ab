use Rattle.std.proofs.Common.{rules, ap, sym, ◌∙◌}
use Rattle.cond_lang.specs.Bound.{bound_value}
use Rattle.cond_lang.specs.Shown.{cond_tree}
use Rattle.cond_lang.proofs.Nodes.{each_always}
use Rattle.site_core.specs.Sampled.{cycle_samples}
use Rattle.slot_sched.specs.Waiting.{is_true, test_holds}
use Rattle.slot_sched.proofs.Tests.{each_asked, each_wide, test_told, true_is}
use Rattle.slot_sched.proofs.sampled.test_holds.Goals as goal

pub truth-requires-clause-bit : goal.truth-requires-clause-bit
truth-requires-clause-bit g c = (test_told _ c.args.cond.now c.in-Some.cond c.in-Some.is c.requires.test).0

pub truth-requires-clause-callable : goal.truth-requires-clause-callable
truth-requires-clause-callable g c = search (rules, each_asked)

pub truth-requires-clause-widths : goal.truth-requires-clause-widths
truth-requires-clause-widths g c = each_wide (g.T.Trace.samples c.args.trace.now) (g.T.Trace.cursor c.args.trace.now) _ c.args.cond.now c.in-Some.cond c.in-Some.is c.requires.test c.requires.set (search rules)

pub returns : goal.returns
returns g c =
    let samples = cycle_samples (g.T.Trace.samples c.args.trace.now) (g.T.Trace.cursor c.args.trace.now) in
    c.is_true.ensures
    ∙ ap is_true (c.truth.ensures (λ node. samples node.0) (search (rules, each_always)))
    ∙ true_is (bound_value (λ node. samples node.0) (cond_tree c.in-Some.cond))
    ∙ ap (test_holds samples) (sym c.in-Some.is)
