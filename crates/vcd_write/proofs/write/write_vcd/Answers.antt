use Rattle.std.proofs.Common.{refl}
use Rattle.std.proofs.lemmas.Result.{err_from_is_err_and}
use Rattle.io_edge.proofs.Growth.{no_growth}
use Rattle.io_edge.proofs.Passing.{last_passes, last_front}
use Rattle.vcd_write.proofs.write.write_vcd.Goals as goal

pub returns-in_err-nodes-clause-front : goal.returns-in_err-nodes-clause-front
returns-in_err-nodes-clause-front g c =
    let p = err_from_is_err_and c.from_residual.result c.from_residual.ensures.1 in
    rw (p.1) (no_growth _ _ _ refl)

pub returns-in_err-write_waves-clause-front : goal.returns-in_err-write_waves-clause-front
returns-in_err-write_waves-clause-front g c =
    let p = err_from_is_err_and c.from_residual-in_err-write_waves.result c.from_residual-in_err-write_waves.ensures.1 in
    let front = rw (c.new-text.ensures.items) at c.in_err-write_waves.ensures.front in
    rw (p.1) front

pub returns-in_err-put_all-clause-front : goal.returns-in_err-put_all-clause-front
returns-in_err-put_all-clause-front g c =
    let p = err_from_is_err_and c.from_residual-in_err-put_all.result c.from_residual-in_err-put_all.ensures.1 in
    let passes = rw (c.new-text.ensures.items) at c.in_ok-write_waves.ensures.ok in
    let front = rw (c.deref-2.ensures.value) at c.in_err-put_all.ensures.front in
    rw (p.1) (last_front _ _ _ _ _ passes front)

pub returns-clause-ok : goal.returns-clause-ok
returns-clause-ok g c =
    let passes = rw (c.new-text.ensures.items) at c.in_ok-write_waves.ensures.ok in
    let all = rw (c.deref-2.ensures.value) at c.in_ok-put_all.ensures.ok in
    last_passes _ _ _ _ _ passes all
