use Rattle.std.proofs.Common.{sym, subst, ℕ, List, ◌<◌, length}
use Rattle.list_core.specs.Lists.{EachOf}
use Rattle.graph_order.specs.Flat.{edges_in}
use Rattle.graph_order.proofs.Spans.{span_edges}
use Rattle.graph_order.proofs.graph.Graph.next.Goals as goal

pub returns-clause-edges : goal.returns-clause-edges
returns-clause-edges c =
    subst (λ (ends : List ℕ). EachOf (λ w. w < length c.args.self.now) (edges_in ends c.index-span.result.now)) (sym c.deref.ensures.value)
    (span_edges c.self.inside.ends.items c.self.inside.spans.items c.args.vertex c.index-span.result.now c.args.self.now c.self.invariant c.self.view_is c.requires c.index-span.ensures)
