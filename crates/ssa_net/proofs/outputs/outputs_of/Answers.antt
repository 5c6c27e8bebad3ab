use Rattle.std.proofs.Common.{map, ap, ◌∙◌, subst}
use Rattle.list_core.specs.Lists.{IsIn}
use Rattle.design_core.specs.View.{variant_of}
use Rattle.design_core.specs.WellFormed.{signals_at}
use Rattle.net_core.specs.Nets.{outputs_of as net_outputs}
use Rattle.ssa_net.proofs.Outs.{signal_in, outputs_more, outputs_fit}
use Rattle.ssa_net.proofs.outputs.outputs_of.Goals as goal

pub push_output-requires-clause-signal : goal.push_output-requires-clause-signal
push_output-requires-clause-signal c =
    subst (IsIn c.signal-item.result) (c.signals_of-signal-items.ensures ∙ ap (λ vs. signals_at 0 (map variant_of vs)) c.deref.ensures.value) (signal_in c.signals_of-signal-items.result.now c.loop-signal.signal-index c.signal-item.result c.loop-signal-test.true c.signal-item.is)

pub loop-signal-preserved : goal.loop-signal-preserved
loop-signal-preserved c =
    outputs_more c.args.parts.now c.args.builder.now (net_outputs c.loop-signal.outputs.items) (net_outputs c.push_output.new.outputs.items) c.signals_of-signal-items.result.now c.loop-signal.signal-index c.signal-item.result c.loop-signal-test.true c.signal-item.is c.loop-signal.invariant c.in_ok-push_output.ensures

pub returns-clause-fit : goal.returns-clause-fit
returns-clause-fit c = outputs_fit c.args.parts.now c.args.builder.now _ (net_outputs c.loop-signal.outputs.items) c.loop-signal.invariant
