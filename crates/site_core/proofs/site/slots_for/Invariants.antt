use Rattle.std.proofs.Common.{◌≡◌, filter, take}
use Rattle.site_core.specs.Sites.{named_has}
use Rattle.site_core.proofs.site.slots_for.Given as goal

abbrev pub invariant-loop-slot : goal.invariant-loop-slot
invariant-loop-slot l = l.kept.items ≡ filter (named_has l.table l.named) (take l.slot-index l.slots)
