use Rattle.std.proofs.Common.{refl, ◌∙◌}
use Rattle.std.proofs.lemmas.Result.{err_from_is_err_and, on_ok_weaker, on_err_weaker}
use Rattle.io_edge.proofs.Growth.{no_growth}
use Rattle.dbg_core.specs.State.{machine_of}
use Rattle.batch_run.proofs.Opening.{output_taken, front_taken}
use Rattle.batch_run.proofs.session.write_batch.Goals as goal

pub returns-in_err-listeners-clause-front : goal.returns-in_err-listeners-clause-front
returns-in_err-listeners-clause-front g c =
    let p = err_from_is_err_and c.from_residual.result c.from_residual.ensures.1 in
    rw (p.1) (λ read reader. no_growth _ _ _ refl)

pub returns-clause-ok : goal.returns-clause-ok
returns-clause-ok g c =
    let s = c.new-session in
    on_ok_weaker c.run_batch.result
    (λ h. output_taken _ _ _ _ _ _ c.args.requests.now s.ensures.table s.ensures.samples ((λ i. machine_of s.result (c.in_ok-listeners.ensures i)) ∙ s.ensures.opening _) _ _ h) c.run_batch.ensures.ok

pub returns-clause-front : goal.returns-clause-front
returns-clause-front g c =
    let s = c.new-session in
    on_err_weaker c.run_batch.result
    (λ h. front_taken _ _ _ _ _ _ c.args.requests.now s.ensures.table s.ensures.samples ((λ i. machine_of s.result (c.in_ok-listeners.ensures i)) ∙ s.ensures.opening _) _ _ h) c.run_batch.ensures.front
