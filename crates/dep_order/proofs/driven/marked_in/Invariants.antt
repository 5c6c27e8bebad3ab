use Rattle.std.proofs.Common.{◌≡◌, take}
use Rattle.dep_order.specs.Ordering.{marked_in}
use Rattle.dep_order.proofs.driven.marked_in.Given as goal

abbrev pub invariant-loop-v : goal.invariant-loop-v
invariant-loop-v l = l.kept.items ≡ marked_in l.marks (take l.v-index l.vertices)
