use Rattle.std.proofs.Common.{◌≡◌, take, map}
use Rattle.design_core.specs.View.{variant_of}
use Rattle.design_core.specs.WellFormed.{registers}
use Rattle.design_core.proofs.top.all_registers.Given as goal

abbrev pub invariant-loop-instance : goal.invariant-loop-instance
invariant-loop-instance l = l.count ≡ registers (map variant_of l.design.variants.items) (take l.instance-index l.instance-items)
