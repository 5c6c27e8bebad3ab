use Rattle.std.proofs.Common.{◌≡◌, ◌<◌, ◌++◌, length, sym, ap, ◌∙◌, arith}
use Rattle.std.specs.List.{flat_map}
use Rattle.std.proofs.lemmas.Result.{err_from_is_err_and}
use Rattle.list_core.specs.Lists.{from}
use Rattle.trail_out.specs.Texts.{slot_text, cycle_text}
use Rattle.io_edge.proofs.Passing.{more_passes, front_passes}
use Rattle.trail_out.proofs.Cycles.{number_next, number_of, set_at}
use Rattle.trail_out.proofs.rows.write_cycles.Goals as goal

pub returns-in_err-write_cycle-clause-front : goal.returns-in_err-write_cycle-clause-front
returns-in_err-write_cycle-clause-front g c =
    let p = err_from_is_err_and c.from_residual.result c.from_residual.ensures.1 in
    let s = g.T.Trace.samples c.args.trace.now in
    let f = cycle_text s c.args.rows.now.table.now in
    let same : g.T.Trace.samples c.seek.new.self ≡ s = c.seek.ensures.kept ∙ c.loop-cycle.invariant.samples in
    let inside : c.loop-cycle.cycle < s.cycles = omega (arith, c.cycles-cycle-end.ensures, c.loop-cycle-test.true) in
    let loop_inside : c.loop-cycle.cycle < (g.T.Trace.samples c.loop-cycle.trace).cycles = rw (c.loop-cycle.invariant.samples) inside in
    let at = set_at s (g.T.Trace.samples c.seek.new.self) (g.T.Trace.cursor c.seek.new.self) c.loop-cycle.cycle same (c.seek.ensures.within loop_inside).1 in
    let behind = number_of f c.loop-cycle.cycle s.cycles inside in
    let here = behind.is ∙ ap (λ samples. flat_map f (from 0 c.loop-cycle.cycle) ++ (flat_map (slot_text c.loop-cycle.cycle samples c.args.rows.now.table.now) (from 0 (length c.args.rows.now.table.now.slots)) ++ behind.rest)) (sym at) in
    rw (p.1) (front_passes _ _ _ _ _ _ _ _ _ here c.loop-cycle.invariant.passes c.in_err-write_cycle.ensures.front)

pub loop-cycle-preserved : goal.loop-cycle-preserved
loop-cycle-preserved g c =
    let s = g.T.Trace.samples c.args.trace.now in
    let f = cycle_text s c.args.rows.now.table.now in
    let same : g.T.Trace.samples c.seek.new.self ≡ s = c.seek.ensures.kept ∙ c.loop-cycle.invariant.samples in
    let inside : c.loop-cycle.cycle < s.cycles = omega (arith, c.cycles-cycle-end.ensures, c.loop-cycle-test.true) in
    let loop_inside : c.loop-cycle.cycle < (g.T.Trace.samples c.loop-cycle.trace).cycles = rw (c.loop-cycle.invariant.samples) inside in
    let at = set_at s (g.T.Trace.samples c.seek.new.self) (g.T.Trace.cursor c.seek.new.self) c.loop-cycle.cycle same (c.seek.ensures.within loop_inside).1 in
    let next = number_next f c.loop-cycle.cycle ∙ ap (λ samples. flat_map f (from 0 c.loop-cycle.cycle) ++ flat_map (slot_text c.loop-cycle.cycle samples c.args.rows.now.table.now) (from 0 (length c.args.rows.now.table.now.slots))) (sym at) in
    record {
      passes = more_passes _ _ _ _ _ _ _ _ _ next c.loop-cycle.invariant.passes c.in_ok-write_cycle.ensures.ok;
      samples = same;
      later = omega (arith, c.in_ok-write_cycle.ensures.later);
    }
