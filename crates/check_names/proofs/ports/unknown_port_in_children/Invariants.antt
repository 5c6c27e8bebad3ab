use Rattle.std.proofs.Common.{◌≡◌, drop, map}
use Rattle.design_core.specs.View.{child_of, variant_of}
use Rattle.names.specs.Known.{has}
use Rattle.check_core.specs.Faults.{first_of}
use Rattle.check_core.specs.Ports.{unknown_port_in_child}
use Rattle.check_names.proofs.ports.unknown_port_in_children.Given as goal

-- what is left tells what all tells
abbrev pub invariant-loop-child : goal.invariant-loop-child
invariant-loop-child l = first_of (unknown_port_in_child (has l.outputs) (map variant_of l.variants)) (map child_of (drop l.child-index l.children)) ≡ first_of (unknown_port_in_child (has l.outputs) (map variant_of l.variants)) (map child_of l.children)
