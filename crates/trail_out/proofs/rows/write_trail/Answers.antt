use Rattle.std.proofs.Common.{subst}
use Rattle.std.proofs.lemmas.Result.{err_from_is_err_and}
use Rattle.io_edge.specs.Taken.{Appends, AppendsFront}
use Rattle.io_edge.proofs.Passing.{last_passes, last_front}
use Rattle.trail_out.proofs.Trails.{texts_are_trails}
use Rattle.trail_out.proofs.rows.write_trail.Goals as goal

pub returns-in_err-write_cycles-clause-front : goal.returns-in_err-write_cycles-clause-front
returns-in_err-write_cycles-clause-front g c =
    let p = err_from_is_err_and c.from_residual.result c.from_residual.ensures.1 in
    let front = rw (c.new-text.ensures.items) at c.in_err-write_cycles.ensures.front in
    rw (p.1) (subst (AppendsFront (g.S.Sink.taken c.args.out.now) (g.S.Sink.taken c.write_cycles.new.out)) (texts_are_trails c.args.table.now c.parts.ensures.table (g.T.Trace.samples c.args.trace.now)) front)

pub returns-in_err-put-clause-front : goal.returns-in_err-put-clause-front
returns-in_err-put-clause-front g c =
    let p = err_from_is_err_and c.from_residual-in_err-put.result c.from_residual-in_err-put.ensures.1 in
    let passes = rw (c.new-text.ensures.items) at c.in_ok-write_cycles.ensures.ok in
    let front = rw (c.deref.ensures.value) at c.in_err-put.ensures.front in
    rw (p.1) (subst (AppendsFront (g.S.Sink.taken c.args.out.now) (g.S.Sink.taken c.put.new.self)) (texts_are_trails c.args.table.now c.parts.ensures.table (g.T.Trace.samples c.args.trace.now)) (last_front _ _ _ _ _ passes front))

pub returns-clause-ok : goal.returns-clause-ok
returns-clause-ok g c =
    let passes = rw (c.new-text.ensures.items) at c.in_ok-write_cycles.ensures.ok in
    let all = rw (c.deref.ensures.value) at c.in_ok-put.ensures.ok in
    subst (Appends (g.S.Sink.taken c.args.out.now) (g.S.Sink.taken c.put.new.self)) (texts_are_trails c.args.table.now c.parts.ensures.table (g.T.Trace.samples c.args.trace.now)) (last_passes _ _ _ _ _ passes all)
