use Rattle.std.proofs.Common.{◌<◌, length, arith}
use Rattle.graph_order.proofs.Paths.{least_here, least_before}
use Rattle.graph_order.proofs.cycle.least_place.Goals as goal
use Rattle.graph_order.proofs.cycle.least_place.Goals.{then-vertices-place, else-vertices-place}

pub loop-place-preserved : goal.loop-place-preserved
loop-place-preserved c =
    let xs = c.args.vertices.now in
    let within : c.loop-place.place < length xs = omega arith in
    elim c.if-vertices-place.branch [
      | then-vertices-place w ↦ least_here xs c.loop-place.place c.loop-place.least c.if-vertices-place.least w.least-is within c.loop-place.invariant w.if-vertices-place.true
      | else-vertices-place w ↦ least_before xs c.loop-place.place c.loop-place.least c.if-vertices-place.least w.least-is within c.loop-place.invariant w.if-vertices-place.false
    ]
