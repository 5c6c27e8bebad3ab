use Rattle.std.proofs.Common.{◌≡◌, drop, map}
use Rattle.design_core.specs.View.{child_of}
use Rattle.check_core.specs.Faults.{first_of}
use Rattle.check_core.specs.Widths.{bad_in_child}
use Rattle.check_widths.proofs.bad.bad_in_children.Given as goal

-- what is left tells what all tells
abbrev pub invariant-loop-child : goal.invariant-loop-child
invariant-loop-child l = first_of bad_in_child (map child_of (drop l.child-index l.children)) ≡ first_of bad_in_child (map child_of l.children)
