use Rattle.dep_order.proofs.Joining.{cycles_join, orders_join}
use Rattle.dep_order.proofs.laws.vertices_are_signals.Goals as goal

pub returns-clause-orders : goal.returns-clause-orders
returns-clause-orders c = orders_join

pub returns-clause-cycles : goal.returns-clause-cycles
returns-clause-cycles c = cycles_join
