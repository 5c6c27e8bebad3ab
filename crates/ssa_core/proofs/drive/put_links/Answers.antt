use Rattle.design_core.specs.DesignView.{design_of}
use Rattle.place_core.specs.Numbering.{numbers_of}
use Rattle.ssa_core.specs.Links.{link_as}
use Rattle.ssa_core.proofs.Driving.{within, still_apart, link_step}
use Rattle.ssa_core.proofs.drive.put_links.Goals as goal

pub put-requires : goal.put-requires
put-requires c =
    let d = design_of c.args.design.now in
    let all = numbers_of c.args.maps.now in
    within d c.args.links.now c.args.keys.now all c.loop-place.list (still_apart d c.args.links.now c.args.keys.now all c.args.list.now c.loop-place.list c.loop-place.invariant.grows c.requires.apart)
    (link_as c.index-links-place.result).0 c.number_of.result c.number_of.ensures

pub loop-place-preserved : goal.loop-place-preserved
loop-place-preserved c =
    let step = link_step (design_of c.args.design.now) c.args.links.now c.args.keys.now (numbers_of c.args.maps.now) c.args.list.now c.loop-place.list c.put.new.list c.loop-place.place c.in_ok-in_32_bits.field-0 c.index-links-place.result c.number_of.result
    c.requires.apart c.loop-place.invariant.grows c.loop-place.invariant.driven c.loop-place-test.true c.index-links-place.is c.in_ok-in_32_bits.ensures c.number_of.ensures c.put.ensures in
    record { grows = step.0; driven = step.1 }
