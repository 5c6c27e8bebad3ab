use Rattle.graph_order.proofs.Standing.{walks_have_no_order, cycles_have_no_order}
use Rattle.graph_order.proofs.laws.not_both.Goals as goal

pub returns-clause-walks : goal.returns-clause-walks
returns-clause-walks c = walks_have_no_order

pub returns-clause-cycles : goal.returns-clause-cycles
returns-clause-cycles c = cycles_have_no_order
