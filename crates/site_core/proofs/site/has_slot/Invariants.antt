use Rattle.std.proofs.Common.{◌≡◌, false, take, nat_eq}
use Rattle.std.specs.List.{list_any}
use Rattle.symtab.specs.Lookups.{instances_of}
use Rattle.site_core.proofs.site.has_slot.Given as goal

abbrev pub invariant-loop-other : goal.invariant-loop-other
invariant-loop-other l = list_any (nat_eq l.instance) (take l.other-index (instances_of l.table l.slot)) ≡ false
