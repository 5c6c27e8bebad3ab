use Rattle.std.proofs.Common.{◌≡◌, map, take}
use Rattle.elab_core.specs.Design.{instance_in, variants_of}
use Rattle.elab_core.specs.View.{instance_of}
use Rattle.gen_elab.proofs.finish.design_instances.Given as goal

-- so far the instances are those that came
abbrev pub invariant-loop-index : goal.invariant-loop-index
invariant-loop-index l = l.made.items ≡ map (instance_in (variants_of (map instance_of l.instances))) (map instance_of (take l.index l.instances))
