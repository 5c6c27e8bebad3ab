use Rattle.std.proofs.Common.{◌<◌, ◌≤◌, take, length, get_or}
use Rattle.list_core.specs.Lists.{EachOf}
use Rattle.graph_order.proofs.cycle.least_place.Given as goal

abbrev pub invariant-loop-place : goal.invariant-loop-place
invariant-loop-place l = (l.least < length l.vertices) × EachOf (λ w. get_or l.vertices l.least 0 ≤ w) (take l.place l.vertices)
