use Rattle.graph_order.proofs.Found.{order_or_cycle}
use Rattle.graph_order.proofs.laws.order_or_loop.Goals as goal

pub returns : goal.returns
returns c = order_or_cycle
