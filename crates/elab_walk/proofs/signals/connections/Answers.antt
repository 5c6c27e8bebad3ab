use Rattle.std.proofs.Common.{◌∙◌, sym, ap, Err}
use Rattle.std.proofs.lemmas.Result.{err_from_is_err_and}
use Rattle.elab_body.proofs.Exits.{exit_judged}
use Rattle.elab_walk.proofs.SignalLoops.{conns_fault_at}
use Rattle.elab_walk.proofs.signals.connections.Goals as goal

pub returns-in_err-conn-clause-judged : goal.returns-in_err-conn-clause-judged
returns-in_err-conn-clause-judged c =
    let p = err_from_is_err_and c.from_residual.result c.from_residual.ensures.1 in
    exit_judged _ _ _ _ _ (p.1 ∙ ap (λ x. Err x) p.2)
    (λ known. sym c.loop-conn.invariant.judged ∙ conns_fault_at _ _ _ _ _ _ _ c.loop-conn-test.true c.conn-item.is (c.in_err-conn.ensures.judged known))
