use Rattle.std.proofs.Common.{◌≡◌, ◌++◌, ◌<◌, ◌^◌, map}
use Rattle.std.specs.List.{AllByRecursion}
use Rattle.symtab_json.specs.Judged.{instance_parts}
use Rattle.symtab_json.proofs.numbers.instance_parts.Given as goal

-- the parts so far, and those of what is left, are all; what is left is small
abbrev pub invariant-loop-instance : goal.invariant-loop-instance
invariant-loop-instance l =
    (l.parts.items ++ map instance_parts l.instance-iterator.rest.items ≡ map instance_parts l.fn.instances.items)
    × AllByRecursion (λ instance. instance.variant < 2 ^ 32) l.instance-iterator.rest.items
