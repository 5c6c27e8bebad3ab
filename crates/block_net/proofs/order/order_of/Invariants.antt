use Rattle.std.proofs.Common.{◌≡◌, ◌≤◌, drop, length, reverse}
use Rattle.block_net.specs.Arms.{AreCounts}
use Rattle.block_net.specs.Cases.{arms_assign}
use Rattle.block_net.specs.Sets.{IsKept}
use Rattle.block_net.specs.Source.{arms_in, else_in}
use Rattle.block_net.specs.Walks.{among}
use Rattle.block_net.proofs.order.order_of.Given as goal

-- the keys of the arms from a place on, and how many there were at each of them
abbrev pub invariant-loop-left : goal.invariant-loop-left
invariant-loop-left l = record {
  inside : l.left ≤ length l.arms;
  kept : IsKept l.set;
  keys : among l.set.keys.items ≡ arms_assign (arms_in l.clocked (drop l.left l.arms)) (else_in l.clocked l.other);
  counts : AreCounts l.set.keys.items (arms_in l.clocked (drop l.left l.arms)) (else_in l.clocked l.other) (reverse l.counts.items);
}

abbrev pub decreases-loop-left : goal.decreases-loop-left
decreases-loop-left l = l.left
