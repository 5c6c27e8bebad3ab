use Rattle.std.proofs.Common.{◌≡◌, map, take}
use Rattle.elab_core.specs.View.{instance_of}
use Rattle.elab_core.specs.Design.{variants_of}
use Rattle.gen_elab.specs.Keys.{key_of, numbers_of}
use Rattle.gen_elab.proofs.finish.variant_numbers.Given as goal

-- so far the variants and numbers are those of the instances that came
abbrev pub invariant-loop-instance : goal.invariant-loop-instance
invariant-loop-instance l = record {
  keys : l.variants ≡ map key_of (variants_of (map instance_of (take l.instance-index l.instances)));
  numbers : l.numbers.items ≡ numbers_of (map instance_of (take l.instance-index l.instances));
}
