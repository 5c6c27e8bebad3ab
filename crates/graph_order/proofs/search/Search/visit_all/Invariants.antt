use Rattle.std.proofs.Common.{◌≡◌, ◌≢◌, ◌<◌, ℕ, []}
use Rattle.graph_order.specs.Search.{Searched, mark_of}
use Rattle.graph_order.specs.declared.search.Mark.TheVariants.{New}
use Rattle.graph_order.proofs.search.Search.visit_all.Given as goal

abbrev pub invariant-loop-vertex : goal.invariant-loop-vertex
invariant-loop-vertex l =
    (l.self.path.items ≡ [])
    × Searched l.graph l.self.marks.items l.self.passed.items [] l.self.order.items
    × ((v : ℕ) → v < l.vertex → mark_of l.self.marks.items v ≢ New)
