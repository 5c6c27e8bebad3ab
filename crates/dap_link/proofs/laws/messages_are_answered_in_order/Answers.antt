use Rattle.dap_link.proofs.Answering.{answered_in_order, framed_are_messages, others_say_nothing}
use Rattle.dap_link.proofs.laws.messages_are_answered_in_order.Goals as goal

pub returns-clause-order : goal.returns-clause-order
returns-clause-order c = answered_in_order

pub returns-clause-framed : goal.returns-clause-framed
returns-clause-framed c = framed_are_messages

pub returns-clause-others : goal.returns-clause-others
returns-clause-others c = others_say_nothing
