use Rattle.std.proofs.Common.{◌≡◌, drop, map}
use Rattle.design_core.specs.View.{child_of}
use Rattle.check_core.specs.Faults.{first_of}
use Rattle.check_core.specs.Names.{unknown_in_child}
use Rattle.check_names.specs.Scopes.{scope_in}
use Rattle.check_names.proofs.unknown.unknown_in_children.Given as goal

-- what is left tells what all tells
abbrev pub invariant-loop-child : goal.invariant-loop-child
invariant-loop-child l = first_of (unknown_in_child (scope_in l.scope)) (map child_of (drop l.child-index l.children)) ≡ first_of (unknown_in_child (scope_in l.scope)) (map child_of l.children)
