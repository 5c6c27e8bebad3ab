use Rattle.std.proofs.Common.{refl, length, arith}
use Rattle.design_core.specs.DesignView.{design_of}
use Rattle.place_core.specs.Numbering.{numbers_of, number_in}
use Rattle.dep_order.proofs.Started.{all_below, are_numbers, maps_count, start_layered, start_wired}
use Rattle.dep_order.proofs.driven.wire_and_order.Goals as goal

pub wire-requires-clause-below : goal.wire-requires-clause-below
wire-requires-clause-below c = all_below (design_of c.args.design.now) (numbers_of c.args.maps.now, c.args.pairs.now) (length c.args.graph.now) c.requires.counted c.requires.count

pub wire-requires-clause-marked : goal.wire-requires-clause-marked
wire-requires-clause-marked c = all_below (design_of c.args.design.now) (numbers_of c.args.maps.now, c.args.pairs.now) (length c.args.driven.now) c.requires.counted c.requires.marks

pub wire-requires-clause-maps : goal.wire-requires-clause-maps
wire-requires-clause-maps c = maps_count (design_of c.args.design.now) c.args.maps.now (numbers_of c.args.maps.now, c.args.pairs.now) c.requires.counted refl

pub order_wired-requires-clause-wired : goal.order_wired-requires-clause-wired
order_wired-requires-clause-wired c =
    let n = length c.args.pairs.now in
    c.in_ok-wire.ensures.drives n (omega (arith, c.requires.count)) (are_numbers (design_of c.args.design.now) (numbers_of c.args.maps.now, c.args.pairs.now) c.requires.counted)
    (start_wired n (number_in (numbers_of c.args.maps.now)) c.args.graph.now c.args.driven.now c.requires.none c.requires.unmarked)

pub order_wired-requires-clause-layered : goal.order_wired-requires-clause-layered
order_wired-requires-clause-layered c =
    let n = length c.args.pairs.now in
    c.in_ok-wire.ensures.layers n (all_below (design_of c.args.design.now) (numbers_of c.args.maps.now, c.args.pairs.now) n c.requires.counted refl) (omega (arith, c.requires.count)) (start_layered n c.args.graph.now c.requires.none)
