use Rattle.std.proofs.Common.{◌∙◌, ap, Err}
use Rattle.std.proofs.lemmas.Result.{err_from_is_err_and}
use Rattle.elab_body.proofs.Exits.{exit_judged}
use Rattle.elab_walk.proofs.AskedCases.{asked_fault_4}
use Rattle.elab_walk.proofs.Heights.{found_height}
use Rattle.elab_walk.proofs.asking.asked.Goals as goal

pub returns-clause-height : goal.returns-clause-height
returns-clause-height c = found_height _ _ _ _ c.in_ok-place.ensures

pub returns-in_err-conns-clause-judged : goal.returns-in_err-conns-clause-judged
returns-in_err-conns-clause-judged c =
    let p = err_from_is_err_and c.from_residual-in_err-conns.result c.from_residual-in_err-conns.ensures.1 in
    exit_judged _ _ _ _ _ (p.1 ∙ ap (λ x. Err x) p.2)
    (λ known. asked_fault_4 _ _ _ _ _ _ _ _ _ _ _ _ _ _ c.in_ok-name.ensures c.in_ok-place.ensures c.in_ok-params.ensures (c.in_err-conns.ensures.judged known))
