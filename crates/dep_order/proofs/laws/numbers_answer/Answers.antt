use Rattle.dep_order.proofs.Answered.{cycles_answer, orders_answer}
use Rattle.dep_order.proofs.laws.numbers_answer.Goals as goal

pub returns-clause-orders : goal.returns-clause-orders
returns-clause-orders c = orders_answer

pub returns-clause-cycles : goal.returns-clause-cycles
returns-clause-cycles c = cycles_answer
