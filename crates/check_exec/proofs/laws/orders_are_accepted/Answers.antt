use Rattle.check_exec.proofs.Orders.{orders_are_accepted, others_are_given}
use Rattle.check_exec.proofs.laws.orders_are_accepted.Goals as goal

pub returns-clause-accepted : goal.returns-clause-accepted
returns-clause-accepted c = orders_are_accepted

pub returns-clause-others : goal.returns-clause-others
returns-clause-others c = others_are_given
