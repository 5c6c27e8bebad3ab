use Rattle.std.proofs.Common.{get_or}
use Rattle.design_core.specs.DesignView.{design_of}
use Rattle.place_core.specs.Numbering.{numbers_of}
use Rattle.list_core.proofs.Listing.{same_get}
use Rattle.ssa_core.proofs.Driving.{process_step}
use Rattle.ssa_core.proofs.drive.put_processes.Goals as goal

pub loop-place-preserved : goal.loop-place-preserved
loop-place-preserved c =
    let i = c.loop-place.place in
    let step = process_step (design_of c.args.design.now) c.args.links.now c.args.keys.now (numbers_of c.args.maps.now) c.args.list.now c.loop-place.list c.put_process.new.list i (get_or c.args.keys.now i _)
    c.loop-place.invariant.grows c.loop-place.invariant.driven c.loop-place-test.true (same_get c.args.keys.now i _ _ c.loop-place-test.true) c.in_ok-put_process.ensures.grows c.in_ok-put_process.ensures.driven in
    record { grows = step.0; driven = step.1 }
