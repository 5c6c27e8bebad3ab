use Rattle.std.proofs.Common.{◌≡◌, ◌++◌, take, map, filter}
use Rattle.symtab.specs.Lookups.{instances_of}
use Rattle.machine_core.specs.Matching.{is_wanted}
use Rattle.site_core.proofs.site.push_spots.Given as goal

abbrev pub invariant-loop-instance : goal.invariant-loop-instance
invariant-loop-instance l = l.spots.items ≡ l.fn.spots.items ++ map (λ i. (l.slot, i)) (filter (is_wanted l.named) (take l.instance-index (instances_of l.table l.slot)))
