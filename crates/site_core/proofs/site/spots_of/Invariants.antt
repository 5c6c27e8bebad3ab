use Rattle.std.proofs.Common.{◌≡◌, take}
use Rattle.site_core.specs.Traps.{traps_of}
use Rattle.site_core.proofs.site.spots_of.Given as goal

abbrev pub invariant-loop-slot : goal.invariant-loop-slot
invariant-loop-slot l = l.spots.items ≡ traps_of l.table l.named (take l.slot-index l.slots)
