use Rattle.std.proofs.Common.{arith}
use Rattle.graph_order.proofs.Steps.{searched_all}
use Rattle.graph_order.proofs.search.Search.visit_all.Goals as goal

pub returns-clause-order : goal.returns-clause-order
returns-clause-order c = searched_all c.args.graph.now _ _ _ c.loop-vertex.invariant.1 (λ v h. c.loop-vertex.invariant.2 v (omega arith))
