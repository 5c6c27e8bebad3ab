use Rattle.std.proofs.Common.{◌≡◌, drop, map}
use Rattle.design_core.specs.View.{child_of, variant_of}
use Rattle.check_core.specs.Widths.{mismatch_in_child}
use Rattle.check_widths.specs.WidthMaps.{widths_at}
use Rattle.check_core.specs.Faults.{first_of}
use Rattle.check_widths.proofs.mismatch.mismatch_in_children.Given as goal

-- what is left tells what all tells
abbrev pub invariant-loop-child : goal.invariant-loop-child
invariant-loop-child l = first_of (mismatch_in_child (widths_at l.signals) (map variant_of l.variants)) (map child_of (drop l.child-index l.children)) ≡ first_of (mismatch_in_child (widths_at l.signals) (map variant_of l.variants)) (map child_of l.children)
