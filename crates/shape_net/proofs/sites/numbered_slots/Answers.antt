use Rattle.std.proofs.Common.{map}
use Rattle.design_core.specs.View.{variant_of}
use Rattle.shape_net.specs.Numbered.{design_slots}
use Rattle.shape_net.proofs.Preorder.{variants_next}
use Rattle.shape_net.proofs.sites.numbered_slots.Goals as goal

pub loop-number-preserved : goal.loop-number-preserved
loop-number-preserved c =
    variants_next c.loop-number.slots.items c.put_variant.new.slots.items (design_slots 0 (map variant_of c.args.variants.now)) c.args.variants.now c.loop-number.number c.index-variants-number.result
    c.loop-number-test.true c.index-variants-number.is c.in_ok-put_variant.ensures c.loop-number.invariant
