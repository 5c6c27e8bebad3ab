use Rattle.std.proofs.Common.{◌∙◌, sym, ap, Err}
use Rattle.std.proofs.lemmas.Result.{err_from_is_err_and}
use Rattle.elab_body.proofs.Exits.{exit_judged}
use Rattle.elab_walk.proofs.SignalLoops.{ports_fault_at}
use Rattle.elab_walk.proofs.signals.ports.Goals as goal

pub returns-in_err-signal-clause-judged : goal.returns-in_err-signal-clause-judged
returns-in_err-signal-clause-judged c =
    let p = err_from_is_err_and c.from_residual.result c.from_residual.ensures.1 in
    exit_judged _ _ _ _ _ (p.1 ∙ ap (λ x. Err x) p.2)
    (λ known. sym c.loop-port.invariant.judged ∙ ports_fault_at _ _ _ _ _ _ _ c.loop-port-test.true c.port-item.is (c.in_err-signal.ensures.judged known))
