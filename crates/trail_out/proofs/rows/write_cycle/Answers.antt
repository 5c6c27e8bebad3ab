use Rattle.std.proofs.Common.{◌<◌, length, arith}
use Rattle.std.proofs.lemmas.Result.{err_from_is_err_and}
use Rattle.trail_out.specs.Texts.{slot_text}
use Rattle.trail_out.specs.Written.{samples_at}
use Rattle.io_edge.proofs.Passing.{more_passes, front_passes}
use Rattle.trail_out.proofs.Cycles.{number_next, number_of}
use Rattle.trail_out.proofs.rows.write_cycle.Goals as goal

pub returns-in_err-write_slot-clause-front : goal.returns-in_err-write_slot-clause-front
returns-in_err-write_slot-clause-front g c =
    let p = err_from_is_err_and c.from_residual.result c.from_residual.ensures.1 in
    let f = slot_text c.args.cycle (samples_at (g.T.Trace.samples c.args.trace.now) (g.T.Trace.cursor c.args.trace.now)) c.args.rows.now.table.now in
    let inside : c.loop-k.k < length c.args.rows.now.table.now.slots = omega (arith, c.slots-k-end.ensures, c.loop-k-test.true) in
    let behind = number_of f c.loop-k.k (length c.args.rows.now.table.now.slots) inside in
    rw (p.1) (front_passes _ _ _ _ _ _ _ _ _ behind.is c.loop-k.invariant.passes c.in_err-write_slot.ensures.front)

pub loop-k-preserved : goal.loop-k-preserved
loop-k-preserved g c =
    let f = slot_text c.args.cycle (samples_at (g.T.Trace.samples c.args.trace.now) (g.T.Trace.cursor c.args.trace.now)) c.args.rows.now.table.now in
    record {
      passes = more_passes _ _ _ _ _ _ _ _ _ (number_next f c.loop-k.k) c.loop-k.invariant.passes c.in_ok-write_slot.ensures.ok;
      later = omega (arith, c.in_ok-write_slot.ensures.later);
    }
