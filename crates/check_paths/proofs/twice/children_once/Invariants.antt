use Rattle.std.proofs.Common.{◌≡◌, drop, map}
use Rattle.design_core.specs.View.{child_of}
use Rattle.check_core.specs.Faults.{first_of}
use Rattle.check_core.specs.Drivers.{twice_in_child}
use Rattle.check_paths.proofs.twice.children_once.Given as goal

-- what is left tells what all tells
abbrev pub invariant-loop-child : goal.invariant-loop-child
invariant-loop-child l = first_of twice_in_child (map child_of (drop l.child-index l.children)) ≡ first_of twice_in_child (map child_of l.children)
