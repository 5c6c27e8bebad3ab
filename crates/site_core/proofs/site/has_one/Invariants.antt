use Rattle.std.proofs.Common.{◌≡◌, false, take}
use Rattle.std.specs.List.{list_any}
use Rattle.site_core.specs.Sites.{has_slot}
use Rattle.site_core.proofs.site.has_one.Given as goal

abbrev pub invariant-loop-slot : goal.invariant-loop-slot
invariant-loop-slot l = list_any (has_slot l.table l.instance) (take l.slot-index l.slots) ≡ false
