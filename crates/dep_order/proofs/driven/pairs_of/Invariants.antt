use Rattle.std.proofs.Common.{◌≡◌, take}
use Rattle.dep_order.specs.Ordering.{pairs_of}
use Rattle.dep_order.proofs.driven.pairs_of.Given as goal

abbrev pub invariant-loop-n : goal.invariant-loop-n
invariant-loop-n l = l.list.items ≡ pairs_of l.pairs (take l.n-index l.numbers)
