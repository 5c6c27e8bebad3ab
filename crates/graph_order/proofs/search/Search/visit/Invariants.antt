use Rattle.std.proofs.Common.{◌≢◌, ◌+◌, ◌*◌, length}
use Rattle.graph_order.specs.Search.{Searched, StayMarked, mark_of, news}
use Rattle.graph_order.specs.declared.search.Mark.TheVariants.{New}
use Rattle.graph_order.proofs.search.Search.visit.Given as goal

abbrev pub invariant-loop-last : goal.invariant-loop-last
invariant-loop-last l =
    Searched l.graph l.self.marks.items l.self.passed.items l.self.path.items l.self.order.items
    × StayMarked l.fn.self.marks.items l.self.marks.items
    × (mark_of l.self.marks.items l.vertex ≢ New)

abbrev pub decreases-loop-last : goal.decreases-loop-last
decreases-loop-last l = 2 * news l.self.marks.items + length l.self.path.items
