use Rattle.std.proofs.Common.{refl}
use Rattle.std.proofs.lemmas.Result.{err_from_is_err_and}
use Rattle.io_edge.proofs.Growth.{no_growth}
use Rattle.vcd_write.proofs.Pieces.{waves_front, waves_pass}
use Rattle.vcd_write.proofs.write.write_waves.Goals as goal

pub returns-in_err-values-clause-front : goal.returns-in_err-values-clause-front
returns-in_err-values-clause-front g c =
    let p = err_from_is_err_and c.from_residual.result c.from_residual.ensures.1 in
    rw (p.1) (no_growth _ _ _ refl)

pub returns-in_err-write_cycles-clause-front : goal.returns-in_err-write_cycles-clause-front
returns-in_err-write_cycles-clause-front g c =
    let p = err_from_is_err_and c.from_residual-in_err-write_cycles.result c.from_residual-in_err-write_cycles.ensures.1 in
    rw (p.1)
    (waves_front c.args.trace.now.net c.args.trace.now.stim c.args.text.now.items c.push_start.new.text.items c.push_start.new.trace.net c.push_start.new.trace.stim (g.S.Sink.taken c.args.out.now) (g.S.Sink.taken c.write_cycles.new.out)
    c.in_ok-values.ensures.net c.in_ok-values.ensures.stim c.in_ok-values.ensures.text c.in_err-write_cycles.ensures.front)

pub returns-clause-ok : goal.returns-clause-ok
returns-clause-ok g c =
    waves_pass c.args.trace.now.net c.args.trace.now.stim c.args.text.now.items c.push_start.new.text.items c.write_cycles.new.text.items c.push_start.new.trace.net c.push_start.new.trace.stim (g.S.Sink.taken c.args.out.now) (g.S.Sink.taken c.write_cycles.new.out)
    c.in_ok-values.ensures.net c.in_ok-values.ensures.stim c.in_ok-values.ensures.text c.in_ok-write_cycles.ensures.ok
