use Rattle.std.proofs.Common.{◌≡◌, drop}
use Rattle.graph_order.specs.Search.{from_on}
use Rattle.graph_order.proofs.cycle.from_on.Given as goal

abbrev pub invariant-loop-place : goal.invariant-loop-place
invariant-loop-place l = from_on l.vertex (drop l.place l.path) ≡ from_on l.vertex l.path
