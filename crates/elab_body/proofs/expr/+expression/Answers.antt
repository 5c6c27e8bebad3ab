use Rattle.std.proofs.Common.{ap, ◌∙◌, Err}
use Rattle.std.proofs.lemmas.Result.{err_from_is_err_and}
use Rattle.elab_body.proofs.ExprCases.{mux_fault_4}
use Rattle.elab_body.proofs.Exits.{exit_judged}
use Rattle.elab_body.proofs.expr.+expression.Goals as goal

pub returns-in_err-expression-in-Mux-3-clause-judged : goal.returns-in_err-expression-in-Mux-3-clause-judged
returns-in_err-expression-in-Mux-3-clause-judged t c =
    let p = err_from_is_err_and c.from_residual-in_err-expression-in-Mux-3.result c.from_residual-in_err-expression-in-Mux-3.ensures.1 in
    exit_judged _ _ _ _ _ (p.1 ∙ ap (λ x. Err x) p.2)
    (λ known. rw (c.in-Mux.is, ← c.deref-in-Mux.ensures, ← c.deref-in-Mux-2.ensures, ← c.deref-in-Mux-3.ensures) (mux_fault_4 _ _ _ _ _ _ _ _ _ _ _ _ c.in_ok-take.ensures.judged c.in_ok-expression-in-Mux.ensures.judged c.in_ok-expression-in-Mux-2.ensures.judged (c.in_err-expression-in-Mux-3.ensures.judged known)))
