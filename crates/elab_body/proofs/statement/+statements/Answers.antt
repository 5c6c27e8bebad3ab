use Rattle.std.proofs.Common.{ℤ, if◌then◌else◌, refl, ap, sym, ◌∙◌, subst, Err, w64, to_z, of_z, SFits, rules}
use Rattle.std.proofs.lemmas.Int.{to_z-of_z}
use Rattle.std.proofs.lemmas.Result.{err_from_is_err_and}
use Rattle.gen_scope.specs.Gens.{bound}
use Rattle.elab_body.proofs.StmtLoops.{stmts_fault_at, body_fault}
use Rattle.gen_tree.specs.View.{stmt_of, stmts_of, else_of}
use Rattle.gen_tree.proofs.Views.{stmt_given}
use Rattle.elab_core.specs.Results.{Judged}
use Rattle.elab_core.specs.Walk.{judge}
use Rattle.elab_core.specs.Elab.{statement}
use Rattle.elab_base.specs.Met.{met_of}
use Rattle.elab_body.specs.Body.{made_of, else_stmts}
use Rattle.elab_body.proofs.StmtCases.{given_fault, given_branch, turn_last_fault}
use Rattle.elab_body.proofs.Exits.{exit_judged}
use Rattle.elab_body.proofs.statement.+statements.Goals as goal

pub statements-returns-in_err-one_statement-clause-judged : goal.statements-returns-in_err-one_statement-clause-judged
statements-returns-in_err-one_statement-clause-judged t c =
    let p = err_from_is_err_and c.from_residual.result c.from_residual.ensures.1 in
    exit_judged _ _ _ _ _ (p.1 ∙ ap (λ x. Err x) p.2)
    (λ known. sym c.loop-statement.invariant.judged ∙ stmts_fault_at _ _ _ _ _ _ _ c.loop-statement-test.true c.statement-item.is (c.in_err-one_statement.ensures.judged known))

pub one_turn-returns-in_err-statements-clause-judged : goal.one_turn-returns-in_err-statements-clause-judged
one_turn-returns-in_err-statements-clause-judged t c =
    let p = err_from_is_err_and c.from_residual-in_err-statements.result c.from_residual-in_err-statements.ensures.1 in
    exit_judged _ _ _ _ _ (p.1 ∙ ap (λ x. Err x) p.2)
    (λ known. turn_last_fault _ _ _ _ _ _ _ _ c.in_ok-take.ensures.judged
    (c.in_ok-inner.ensures ∙ ap (λ (n : ℤ). bound c.args.each.now.name.value n c.args.scope.now) (to_z-of_z w64 c.args.number c.ranges.number))
    (c.in_err-statements.ensures.judged known))

pub all_turns-returns-in_err-one_turn-clause-judged : goal.all_turns-returns-in_err-one_turn-clause-judged
all_turns-returns-in_err-one_turn-clause-judged t c =
    let p = err_from_is_err_and c.from_residual.result c.from_residual.ensures.1 in
    let fits : SFits w64 c.number-number.result = search rules in
    exit_judged _ _ _ _ _ (p.1 ∙ ap (λ x. Err x) p.2)
    (λ known. sym c.loop-turn.invariant.judged ∙ body_fault _ _ _ _ _ _ _ (to_z w64 (of_z w64 c.number-number.result)) _ _ _ _ c.loop-turn-test.true
    (to_z-of_z w64 c.number-number.result fits ∙ c.number-number.ensures) refl (c.in_err-one_turn.ensures.judged known))

-- a `gen if`: its integers are faulty, or the branch that is taken is all that it is
pub generated-returns-in_err-holds-in-GenIf-clause-judged : goal.generated-returns-in_err-holds-in-GenIf-clause-judged
generated-returns-in_err-holds-in-GenIf-clause-judged t c =
    let p = err_from_is_err_and c.from_residual-in_err-holds-in-GenIf.result c.from_residual-in_err-holds-in-GenIf.ensures.1 in
    let written = ap (λ s. judge (met_of c.args.met.now) (statement s c.args.scope.now (made_of c.args.made.now))) (ap stmt_of c.in-GenIf.is ∙ stmt_given c.in-GenIf.line c.in-GenIf.left c.in-GenIf.cmp c.in-GenIf.right c.in-GenIf.yes c.in-GenIf.no) in
    exit_judged _ _ _ _ _ (p.1 ∙ ap (λ x. Err x) p.2)
    (λ known. written ∙ given_fault _ _ _ _ _ _ _ _ _ _ (c.in_err-holds-in-GenIf.ensures known))

pub generated-returns-in_ok-holds-in-GenIf-clause-judged : goal.generated-returns-in_ok-holds-in-GenIf-clause-judged
generated-returns-in_ok-holds-in-GenIf-clause-judged t c =
    let written = ap (λ s. judge (met_of c.args.met.now) (statement s c.args.scope.now (made_of c.args.made.now))) (ap stmt_of c.in-GenIf.is ∙ stmt_given c.in-GenIf.line c.in-GenIf.left c.in-GenIf.cmp c.in-GenIf.right c.in-GenIf.yes c.in-GenIf.no) in
    let chosen = c.branch_of.ensures ∙ ap (λ xs. if c.in_ok-holds-in-GenIf.holds then stmts_of xs else else_stmts (else_of c.in-GenIf.no)) c.deref-in-GenIf.ensures.value in
    subst (Judged _ c.statements.result _) (sym (written ∙ given_branch _ _ _ _ _ _ _ _ _ _ _ _ c.in_ok-holds-in-GenIf.ensures chosen refl)) c.statements.ensures.judged
