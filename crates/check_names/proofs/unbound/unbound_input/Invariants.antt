use Rattle.std.proofs.Common.{◌≡◌, drop, map}
use Rattle.design_core.specs.View.{child_of, variant_of}
use Rattle.check_core.specs.Faults.{first_of}
use Rattle.check_core.specs.Ports.{unbound_in_child}
use Rattle.check_names.proofs.unbound.unbound_input.Given as goal

-- what is left tells what all tells
abbrev pub invariant-loop-child : goal.invariant-loop-child
invariant-loop-child l = first_of (unbound_in_child (map variant_of l.variants)) (map child_of (drop l.child-index l.variant.children.items)) ≡ first_of (unbound_in_child (map variant_of l.variants)) (map child_of l.variant.children.items)
