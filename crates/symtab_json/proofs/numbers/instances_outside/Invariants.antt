use Rattle.std.proofs.Common.{◌≡◌, drop}
use Rattle.symtab_json.specs.Judged.{instance_outside, first_outside}
use Rattle.symtab_json.proofs.numbers.instances_outside.Given as goal

-- those that are left decide
abbrev pub invariant-loop-instance : goal.invariant-loop-instance
invariant-loop-instance l = first_outside (instance_outside l.variants) (drop l.instance-index l.instances) ≡ first_outside (instance_outside l.variants) l.instances
