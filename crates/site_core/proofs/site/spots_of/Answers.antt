use Rattle.std.proofs.Common.{[], get_or}
use Rattle.list_core.proofs.Growing.{flat_more}
use Rattle.site_core.specs.Traps.{traps_in}
use Rattle.site_core.proofs.Sites.{same_item}
use Rattle.site_core.proofs.site.spots_of.Goals as goal

pub loop-slot-preserved : goal.loop-slot-preserved
loop-slot-preserved c =
    let slots = c.args.slots.now in
    let i = c.loop-slot.slot-index in
    flat_more (traps_in c.args.table.now c.args.named) [] c.loop-slot.spots.items c.push_spots.new.spots.items slots i (get_or slots i 0) c.loop-slot-test.true (same_item slots i 0 c.loop-slot-test.true)
    c.loop-slot.invariant c.in_ok-push_spots.ensures
