use Rattle.std.proofs.Common.{◌≡◌, take}
use Rattle.symtab.specs.Shape.{variants_of}
use Rattle.symtab.proofs.table.variants_of.Given as goal

abbrev pub invariant-loop-instance : goal.invariant-loop-instance
invariant-loop-instance l = l.variants.items ≡ variants_of (take l.instance-index l.instances)
