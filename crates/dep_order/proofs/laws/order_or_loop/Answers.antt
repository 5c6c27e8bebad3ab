use Rattle.dep_order.proofs.Found.{order_or_loop}
use Rattle.dep_order.proofs.laws.order_or_loop.Goals as goal

pub returns : goal.returns
returns c = order_or_loop
