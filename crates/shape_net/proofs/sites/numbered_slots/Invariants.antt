use Rattle.std.proofs.Common.{◌≡◌, ◌++◌, map, drop}
use Rattle.design_core.specs.View.{variant_of}
use Rattle.shape_net.specs.Numbered.{design_slots}
use Rattle.shape_net.proofs.sites.numbered_slots.Given as goal

abbrev pub invariant-loop-number : goal.invariant-loop-number
invariant-loop-number l = l.slots.items ++ design_slots l.number (map variant_of (drop l.number l.variants)) ≡ design_slots 0 (map variant_of l.variants)
