use Rattle.std.proofs.Common.{◌≤◌, length}
use Rattle.names.specs.Maps.{value_of}
use Rattle.name_widths.specs.DeclaredWidths.{width_at}
use Rattle.block_net.specs.Terms.{Extends}
use Rattle.block_net.specs.Walks.{Fits, Shows}
use Rattle.block_net.proofs.ArmSteps.{JoinsFrom}
use Rattle.block_net.proofs.arms.join_all.Given as goal

-- the ends from a place on are joined
abbrev pub invariant-loop-left : goal.invariant-loop-left
invariant-loop-left l = record {
  inside : l.left ≤ length l.ends;
  fits : Fits l.walk;
  shows : Shows (width_at (value_of l.widths)) l.walk;
  terms : Extends l.initial.walk.terms l.walk.terms;
  joins : JoinsFrom (width_at (value_of l.widths)) l.ends l.left l.initial.walk l.walk;
}

abbrev pub decreases-loop-left : goal.decreases-loop-left
decreases-loop-left l = l.left
