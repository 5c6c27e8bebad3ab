use Rattle.std.proofs.Common.{◌≡◌, take}
use Rattle.list_core.specs.Lists.{EachOf}
use Rattle.graph_order.specs.Search.{mark_of}
use Rattle.graph_order.specs.declared.search.Mark.TheVariants.{Finished}
use Rattle.graph_order.proofs.search.Search.unfinished.Given as goal

abbrev pub invariant-loop-place : goal.invariant-loop-place
invariant-loop-place l = EachOf (λ w. mark_of l.self.marks.items w ≡ Finished) (take l.place l.next)
