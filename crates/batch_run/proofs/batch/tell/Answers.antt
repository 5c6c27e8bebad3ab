use Rattle.std.proofs.Common.{refl}
use Rattle.std.proofs.lemmas.Result.{err_from_is_err_and}
use Rattle.io_edge.proofs.Growth.{no_growth}
use Rattle.batch_run.proofs.batch.tell.Goals as goal

-- nothing was put yet
pub returns-in_err-push_answered-clause-front : goal.returns-in_err-push_answered-clause-front
returns-in_err-push_answered-clause-front g c =
    let p = err_from_is_err_and c.from_residual.result c.from_residual.ensures.1 in
    rw (p.1) (no_growth _ _ _ refl)
