use Rattle.std.proofs.Common.{rules}
use Rattle.cond_lang.specs.Shown.{cond_tree}
use Rattle.cond_lang.proofs.Nodes.{each_always}
use Rattle.site_core.specs.Sampled.{cycle_samples}
use Rattle.site_core.proofs.Nodes.{each_asked_for, each_has_width}
use Rattle.site_core.proofs.sampled.come_to.Goals as goal

pub value_of-requires-clause-callable : goal.value_of-requires-clause-callable
value_of-requires-clause-callable g c = each_asked_for (g.T.Trace.samples c.args.trace.now) _ (cond_tree c.args.cond.now) c.requires.nodes (search rules)

pub value_of-requires-clause-widths : goal.value_of-requires-clause-widths
value_of-requires-clause-widths g c =
    each_has_width (g.T.Trace.samples c.args.trace.now) (g.T.Trace.cursor c.args.trace.now) _ (cond_tree c.args.cond.now) c.requires.nodes c.requires.set (search rules)

pub returns : goal.returns
returns g c =
    let samples = cycle_samples (g.T.Trace.samples c.args.trace.now) (g.T.Trace.cursor c.args.trace.now) in
    c.value_of.ensures.value (λ node. samples node.0) (search (rules, each_always))
