use Rattle.std.proofs.Common.{get_or}
use Rattle.std.proofs.lemmas.Option.{slice_get-get_or}
use Rattle.design_core.specs.DesignView.{design_of}
use Rattle.place_core.specs.Numbering.{numbers_of}
use Rattle.ssa_core.proofs.Driving.{within, still_apart, name_step, has_at}
use Rattle.list_core.proofs.Listing.{same_get}
use Rattle.ssa_core.proofs.drive.put_names.Goals as goal

pub put-requires : goal.put-requires
put-requires c =
    let d = design_of c.args.design.now in
    let all = numbers_of c.args.maps.now in
    within d c.args.links.now c.args.keys.now all c.loop-name.list (still_apart d c.args.links.now c.args.keys.now all c.args.list.now c.loop-name.list c.loop-name.invariant.grows c.requires.apart) _ c.number_of.result c.number_of.ensures

pub loop-name-preserved : goal.loop-name-preserved
loop-name-preserved c =
    let d = design_of c.args.design.now in
    let all = numbers_of c.args.maps.now in
    let i = c.loop-name.name-index in
    name_step d c.args.links.now c.args.keys.now all c.args.list.now c.loop-name.list c.put.new.list c.args.names.now i c.args.instance (get_or c.args.names.now i _) c.number_of.result c.args.drive c.requires.apart c.requires.drives c.loop-name.invariant
    c.loop-name-test.true (same_get c.args.names.now i _ _ c.loop-name-test.true) c.number_of.ensures c.put.ensures
    (has_at d c.args.links.now c.args.keys.now all c.args.names.now i _ (slice_get-get_or c.args.names.now i _ c.loop-name-test.true))
