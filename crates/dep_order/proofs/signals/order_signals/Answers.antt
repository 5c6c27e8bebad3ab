use Rattle.std.proofs.Common.{ap, ◌∙◌}
use Rattle.dep_order.specs.Signals.{signals_in}
use Rattle.dep_order.proofs.Contracted.{order_of_signals}
use Rattle.dep_order.proofs.signals.order_signals.Goals as goal

pub returns-in_ok-signals_in-in-Ok-clause-order : goal.returns-in_ok-signals_in-in-Ok-clause-order
returns-in_ok-signals_in-in-Ok-clause-order c =
    order_of_signals c.args.signals c.args.graph.now c.in-Ok.order.items _ c.requires.signals c.in-Ok.ensures.order (c.in_ok-signals_in-in-Ok.ensures ∙ ap (signals_in c.args.signals) c.deref.ensures.value)
