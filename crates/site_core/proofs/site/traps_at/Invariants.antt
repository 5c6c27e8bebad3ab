use Rattle.std.proofs.Common.{take}
use Rattle.site_core.proofs.Sites.{ArmedUpTo}
use Rattle.site_core.proofs.site.traps_at.Given as goal

abbrev pub invariant-loop-spot : goal.invariant-loop-spot
invariant-loop-spot l = ArmedUpTo l.bit l.table l.text (take l.spot-index l.spots) l.traps.items
