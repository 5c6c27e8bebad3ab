use Rattle.dep_order.proofs.Exclusive.{orders_have_no_loop}
use Rattle.dep_order.proofs.laws.not_both.Goals as goal

pub returns : goal.returns
returns c = orders_have_no_loop
