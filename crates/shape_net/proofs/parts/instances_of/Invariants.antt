use Rattle.std.proofs.Common.{◌≡◌, map, take}
use Rattle.lower_core.specs.Shape.{instance_part}
use Rattle.shape_net.proofs.parts.instances_of.Given as goal

abbrev pub invariant-loop-instance : goal.invariant-loop-instance
invariant-loop-instance l = l.parts.items ≡ map instance_part (take l.instance-index l.instances)
