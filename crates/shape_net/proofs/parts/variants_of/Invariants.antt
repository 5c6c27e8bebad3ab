use Rattle.std.proofs.Common.{◌≡◌, map, take}
use Rattle.design_core.specs.View.{variant_of}
use Rattle.lower_core.specs.Shape.{variant_part}
use Rattle.shape_net.proofs.parts.variants_of.Given as goal

abbrev pub invariant-loop-variant : goal.invariant-loop-variant
invariant-loop-variant l = l.parts.items ≡ map variant_part (map variant_of (take l.variant-index l.variants))
