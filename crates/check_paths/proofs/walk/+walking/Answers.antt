use Rattle.std.proofs.Common.{◌∙◌, sym, ap, Err, arith}
use Rattle.std.proofs.lemmas.Result.{err_from_is_err_and}
use Rattle.design_core.specs.View.{arms_of, body_of, else_of, stmt_of}
use Rattle.design_core.specs.Slots.{size}
use Rattle.names.specs.Known.{has}
use Rattle.names.specs.Maps.{value_of}
use Rattle.check_core.proofs.Firsts.{earlier_none}
use Rattle.name_widths.specs.DeclaredWidths.{width_at}
use Rattle.check_paths.specs.Frames.{all_bits, bits_of, kept}
use Rattle.check_paths.specs.Walked.{missing}
use Rattle.check_paths.proofs.Drives.{err_told}
use Rattle.check_paths.proofs.Walks.{size_next, if_size, case_size, walked_next, walked_at, early_end, after_next, after_end, all_of_nothing, opened_early, some_around, closed_same, same_else, same_in, nothing_apart, both_joined, case_joined, value_told, told_assign, told_let, told_if, told_case, assigned_by_assign, assigned_by_let, assigned_by_if, assigned_by_case, arms_size_next, arm_early_next, arm_early_at, arm_early_end, arm_next, arm_end, some_of}
use Rattle.check_paths.proofs.walk.+walking.Goals as goal

-- ---- statements

pub walk-returns-in_err-walk_stmt-clause-told : goal.walk-returns-in_err-walk_stmt-clause-told
walk-returns-in_err-walk_stmt-clause-told t c =
    let p = err_from_is_err_and c.from_residual.result c.from_residual.ensures.1 in
    err_told _ _ _ (p.1 ∙ ap (λ x. Err x) p.2)
    (λ known. sym c.loop-stmt.invariant.told
    ∙ walked_at (width_at (value_of c.args.widths.now)) (has c.args.watched.now) c.loop-stmt.frames _ _ _ _ c.loop-stmt-test.true c.stmt-item.is (c.in_err-walk_stmt.ensures.told known))

pub walk-loop-stmt-preserved : goal.walk-loop-stmt-preserved
walk-loop-stmt-preserved t c = record {
  told = walked_next (width_at (value_of c.args.widths.now)) (has c.args.watched.now) c.loop-stmt.frames c.walk_stmt.new.frames _ _ _ c.loop-stmt-test.true c.stmt-item.is c.in_ok-walk_stmt.ensures.told c.in_ok-walk_stmt.ensures.assigned c.in_ok-walk_stmt.ensures.kept ∙ c.loop-stmt.invariant.told;
  assigned = after_next _ _ _ _ _ c.loop-stmt-test.true c.stmt-item.is c.in_ok-walk_stmt.ensures.assigned ∙ c.loop-stmt.invariant.assigned;
  kept = c.in_ok-walk_stmt.ensures.kept ∙ c.loop-stmt.invariant.kept;
  left = let next = size_next _ _ _ c.loop-stmt-test.true c.stmt-item.is in let now = c.loop-stmt.invariant.left in omega arith;
}

pub walk-returns-clause-told : goal.walk-returns-clause-told
walk-returns-clause-told t c = sym c.loop-stmt.invariant.told ∙ early_end _ _ _ _ c.loop-stmt-test.false

pub walk-returns-clause-assigned : goal.walk-returns-clause-assigned
walk-returns-clause-assigned t c = sym (after_end _ _ _ c.loop-stmt-test.false) ∙ c.loop-stmt.invariant.assigned

pub walk-walk_stmt-requires : goal.walk-walk_stmt-requires
walk-walk_stmt-requires t c = (let next = size_next _ _ _ c.loop-stmt-test.true c.stmt-item.is in let now = c.loop-stmt.invariant.left in omega arith, tt)

-- ---- both branches of an `if`

pub walk_both-returns-in_err-second-clause-told : goal.walk_both-returns-in_err-second-clause-told
walk_both-returns-in_err-second-clause-told t c =
    let p = err_from_is_err_and c.from_residual-in_err-second.result c.from_residual-in_err-second.ensures.1 in
    err_told _ _ _ (p.1 ∙ ap (λ x. Err x) p.2)
    (λ known. earlier_none _ _ _ c.in_ok-first.ensures.told
    (sym (same_else (width_at (value_of c.args.widths.now)) (has c.args.watched.now) _ _ (else_of c.args.no.now) c.in_ok-first.ensures.stay) ∙ c.in_err-second.ensures.told known))

pub walk_both-returns-clause-told : goal.walk_both-returns-clause-told
walk_both-returns-clause-told t c =
    earlier_none _ _ _ c.in_ok-first.ensures.told
    (sym (same_else (width_at (value_of c.args.widths.now)) (has c.args.watched.now) _ _ (else_of c.args.no.now) c.in_ok-first.ensures.stay) ∙ c.in_ok-second.ensures.told)

pub walk_both-returns-clause-assigned : goal.walk_both-returns-clause-assigned
walk_both-returns-clause-assigned t c =
    both_joined c.args.frames.now c.walk_else.new.frames c.join_common.new.self _ _ (body_of c.args.yes.now) (else_of c.args.no.now) (c.in_ok-second.ensures.stay ∙ c.in_ok-first.ensures.stay)
    c.in_ok-first.ensures.apart c.in_ok-second.ensures.apart c.in_ok-join_common.ensures.own

-- ---- a `case`

pub walk_case-returns-in_err-rest-clause-told : goal.walk_case-returns-in_err-rest-clause-told
walk_case-returns-in_err-rest-clause-told t c =
    let p = err_from_is_err_and c.from_residual-in_err-rest.result c.from_residual-in_err-rest.ensures.1 in
    err_told _ _ _ (p.1 ∙ ap (λ x. Err x) p.2)
    (λ known. earlier_none _ _ _ c.in_ok-found.ensures.told
    (sym (same_else (width_at (value_of c.args.widths.now)) (has c.args.watched.now) _ _ (else_of c.args.other.now) c.in_ok-found.ensures.stay) ∙ c.in_err-rest.ensures.told known))

pub walk_case-returns-clause-told : goal.walk_case-returns-clause-told
walk_case-returns-clause-told t c =
    earlier_none _ _ _ c.in_ok-found.ensures.told
    (sym (same_else (width_at (value_of c.args.widths.now)) (has c.args.watched.now) _ _ (else_of c.args.other.now) c.in_ok-found.ensures.stay) ∙ c.in_ok-rest.ensures.told)

pub walk_case-returns-clause-assigned : goal.walk_case-returns-clause-assigned
walk_case-returns-clause-assigned t c =
    case_joined c.args.frames.now c.walk_else.new.frames c.join_rest.new.self _ _ (arms_of c.args.arms.now) (else_of c.args.other.now) (c.in_ok-rest.ensures.stay ∙ c.in_ok-found.ensures.stay)
    c.in_ok-found.ensures.some c.in_ok-found.ensures.apart c.in_ok-rest.ensures.apart c.in_ok-join_rest.ensures.own

-- ---- a branch apart

pub walk_apart-returns-in_err-walk-clause-told : goal.walk_apart-returns-in_err-walk-clause-told
walk_apart-returns-in_err-walk-clause-told t c =
    let p = err_from_is_err_and c.from_residual-in_err-walk.result c.from_residual-in_err-walk.ensures.1 in
    err_told _ _ _ (p.1 ∙ ap (λ x. Err x) p.2)
    (λ known.
    sym (opened_early (width_at (value_of c.args.widths.now)) (has c.args.watched.now) c.args.frames.now c.open.new.self (body_of c.args.stmts.now) c.in_ok-open.ensures.outer c.in_ok-open.ensures.own)
    ∙ c.in_err-walk.ensures.told known)

pub walk_apart-close-requires : goal.walk_apart-close-requires
walk_apart-close-requires t c = some_around _ _ _ _ c.in_ok-walk.ensures.kept c.in_ok-open.ensures.outer

pub walk_apart-returns-clause-stay : goal.walk_apart-returns-clause-stay
walk_apart-returns-clause-stay t c = closed_same c.args.frames.now c.walk.new.frames c.close.new.self c.open.new.self c.in_ok-walk.ensures.kept c.in_ok-open.ensures.outer c.close.ensures.left

pub walk_apart-returns-clause-apart : goal.walk_apart-returns-clause-apart
walk_apart-returns-clause-apart t c = ap bits_of c.close.ensures.found ∙ all_of_nothing _ _ (body_of c.args.stmts.now) c.in_ok-open.ensures.own c.in_ok-walk.ensures.assigned

pub walk_apart-returns-clause-told : goal.walk_apart-returns-clause-told
walk_apart-returns-clause-told t c =
    sym (opened_early (width_at (value_of c.args.widths.now)) (has c.args.watched.now) c.args.frames.now c.open.new.self (body_of c.args.stmts.now) c.in_ok-open.ensures.outer c.in_ok-open.ensures.own)
    ∙ c.in_ok-walk.ensures.told

pub walk_else-returns-in-None-clause-apart : goal.walk_else-returns-in-None-clause-apart
walk_else-returns-in-None-clause-apart t c = rw c.in-None.is (nothing_apart _ c.new.ensures)

-- ---- arms

pub walk_arms-walk_apart-requires : goal.walk_arms-walk_apart-requires
walk_arms-walk_apart-requires t c = (
  let next = arms_size_next _ _ _ c.loop-arm-test.true c.arm-item.is in
      let same = ap (λ l. size (body_of l)) c.deref.ensures.value in
      let now = c.loop-arm.invariant.left in
      omega arith,
  tt,
)

pub walk_arms-returns-in_err-next-clause-told : goal.walk_arms-returns-in_err-next-clause-told
walk_arms-returns-in_err-next-clause-told t c =
    let p = err_from_is_err_and c.from_residual.result c.from_residual.ensures.1 in
    err_told _ _ _ (p.1 ∙ ap (λ x. Err x) p.2)
    (λ known. sym c.loop-arm.invariant.told
    ∙ arm_early_at _ _ _ _ _ _ _ c.loop-arm-test.true c.arm-item.is c.deref.ensures.value
    (sym (same_in (width_at (value_of c.args.widths.now)) (has c.args.watched.now) c.args.frames.now c.loop-arm.frames (body_of c.deref.result.now) c.loop-arm.invariant.stay) ∙ c.in_err-next.ensures.told known))

pub walk_arms-loop-arm-preserved : goal.walk_arms-loop-arm-preserved
walk_arms-loop-arm-preserved t c = record {
  told = arm_early_next _ _ _ _ _ _ c.loop-arm-test.true c.arm-item.is c.deref.ensures.value
      (sym (same_in (width_at (value_of c.args.widths.now)) (has c.args.watched.now) c.args.frames.now c.loop-arm.frames (body_of c.deref.result.now) c.loop-arm.invariant.stay) ∙ c.in_ok-next.ensures.told)
      ∙ c.loop-arm.invariant.told;
  stay = c.in_ok-next.ensures.stay ∙ c.loop-arm.invariant.stay;
  all = arm_next (kept c.loop-arm.found) _ _ _ _ _ _ c.loop-arm-test.true c.arm-item.is c.deref.ensures.value c.in_ok-next.ensures.apart c.in_ok-common.ensures ∙ c.loop-arm.invariant.all;
  none = λ e. absurd cc;
  some = λ e. omega arith;
  left = let next = arms_size_next _ _ _ c.loop-arm-test.true c.arm-item.is in let now = c.loop-arm.invariant.left in omega arith;
}

pub walk_arms-returns-clause-told : goal.walk_arms-returns-clause-told
walk_arms-returns-clause-told t c = sym c.loop-arm.invariant.told ∙ arm_early_end _ _ _ _ c.loop-arm-test.false

pub walk_arms-returns-clause-apart : goal.walk_arms-returns-clause-apart
walk_arms-returns-clause-apart t c = sym (arm_end _ _ _ c.loop-arm-test.false) ∙ c.loop-arm.invariant.all

pub walk_arms-returns-clause-some : goal.walk_arms-returns-clause-some
walk_arms-returns-clause-some t c = some_of _ _ _ c.loop-arm.invariant.none c.loop-arm.invariant.some c.loop-arm-test.false

-- ---- one statement

pub walk_stmt-walk_both-requires : goal.walk_stmt-walk_both-requires
walk_stmt-walk_both-requires t c = (let next = if_size _ _ _ _ _ _ _ _ c.in-If.is c.deref.ensures.value in omega arith, tt)

pub walk_stmt-walk_case-requires : goal.walk_stmt-walk_case-requires
walk_stmt-walk_case-requires t c = (let next = case_size _ _ _ _ _ _ _ _ c.in-Case.is c.deref-in-Case.ensures.value in omega arith, tt)

pub walk_stmt-returns-in_err-early_read-clause-told : goal.walk_stmt-returns-in_err-early_read-clause-told
walk_stmt-returns-in_err-early_read-clause-told t c =
    let p = err_from_is_err_and c.from_residual.result c.from_residual.ensures.1 in
    err_told _ _ _ (p.1 ∙ ap (λ x. Err x) p.2)
    (λ known.
    value_told (width_at (value_of c.args.widths.now)) (missing (has c.args.watched.now) (all_bits c.args.frames.now)) (stmt_of c.args.stmt.now) _ _ _ c.line.ensures c.value.ensures (c.in_err-early_read.ensures known))

pub walk_stmt-returns-in_ok-join-in-Assign-clause-told : goal.walk_stmt-returns-in_ok-join-in-Assign-clause-told
walk_stmt-returns-in_ok-join-in-Assign-clause-told t c = told_assign _ _ _ _ _ _ _ _ _ _ _ c.in-Assign.is c.line.ensures c.value.ensures c.in_ok-early_read.ensures

pub walk_stmt-returns-in_ok-join-in-Assign-clause-assigned : goal.walk_stmt-returns-in_ok-join-in-Assign-clause-assigned
walk_stmt-returns-in_ok-join-in-Assign-clause-assigned t c = assigned_by_assign _ _ _ _ _ _ _ _ _ _ _ c.in-Assign.is c.bytes.ensures c.part_bits.ensures c.in_ok-join-in-Assign.ensures.own

pub walk_stmt-returns-in_ok-join-in-Let-clause-told : goal.walk_stmt-returns-in_ok-join-in-Let-clause-told
walk_stmt-returns-in_ok-join-in-Let-clause-told t c = told_let _ _ _ _ _ _ _ _ _ _ c.in-Let.is c.line.ensures c.value.ensures c.in_ok-early_read.ensures

pub walk_stmt-returns-in_ok-join-in-Let-clause-assigned : goal.walk_stmt-returns-in_ok-join-in-Let-clause-assigned
walk_stmt-returns-in_ok-join-in-Let-clause-assigned t c = assigned_by_let _ _ _ _ _ _ _ _ _ c.in-Let.is c.bytes-in-Let.ensures c.in_ok-join-in-Let.ensures.own

pub walk_stmt-returns-in_err-walk_both-in-If-clause-told : goal.walk_stmt-returns-in_err-walk_both-in-If-clause-told
walk_stmt-returns-in_err-walk_both-in-If-clause-told t c =
    let p = err_from_is_err_and c.from_residual-in_err-walk_both-in-If.result c.from_residual-in_err-walk_both-in-If.ensures.1 in
    err_told _ _ _ (p.1 ∙ ap (λ x. Err x) p.2)
    (λ known. told_if _ _ _ _ _ _ _ _ _ _ _ _ c.in-If.is c.deref.ensures.value c.line.ensures c.value.ensures c.in_ok-early_read.ensures ∙ c.in_err-walk_both-in-If.ensures.told known)

pub walk_stmt-returns-in_ok-walk_both-in-If-clause-told : goal.walk_stmt-returns-in_ok-walk_both-in-If-clause-told
walk_stmt-returns-in_ok-walk_both-in-If-clause-told t c =
    told_if _ _ _ _ _ _ _ _ _ _ _ _ c.in-If.is c.deref.ensures.value c.line.ensures c.value.ensures c.in_ok-early_read.ensures ∙ c.in_ok-walk_both-in-If.ensures.told

pub walk_stmt-returns-in_ok-walk_both-in-If-clause-assigned : goal.walk_stmt-returns-in_ok-walk_both-in-If-clause-assigned
walk_stmt-returns-in_ok-walk_both-in-If-clause-assigned t c = assigned_by_if _ _ _ _ _ _ _ _ _ _ c.in-If.is c.deref.ensures.value c.in_ok-walk_both-in-If.ensures.assigned

pub walk_stmt-returns-in_err-walk_case-in-Case-clause-told : goal.walk_stmt-returns-in_err-walk_case-in-Case-clause-told
walk_stmt-returns-in_err-walk_case-in-Case-clause-told t c =
    let p = err_from_is_err_and c.from_residual-in_err-walk_case-in-Case.result c.from_residual-in_err-walk_case-in-Case.ensures.1 in
    err_told _ _ _ (p.1 ∙ ap (λ x. Err x) p.2)
    (λ known. told_case _ _ _ _ _ _ _ _ _ _ _ _ c.in-Case.is c.deref-in-Case.ensures.value c.line.ensures c.value.ensures c.in_ok-early_read.ensures ∙ c.in_err-walk_case-in-Case.ensures.told known)

pub walk_stmt-returns-in_ok-walk_case-in-Case-clause-told : goal.walk_stmt-returns-in_ok-walk_case-in-Case-clause-told
walk_stmt-returns-in_ok-walk_case-in-Case-clause-told t c =
    told_case _ _ _ _ _ _ _ _ _ _ _ _ c.in-Case.is c.deref-in-Case.ensures.value c.line.ensures c.value.ensures c.in_ok-early_read.ensures ∙ c.in_ok-walk_case-in-Case.ensures.told

pub walk_stmt-returns-in_ok-walk_case-in-Case-clause-assigned : goal.walk_stmt-returns-in_ok-walk_case-in-Case-clause-assigned
walk_stmt-returns-in_ok-walk_case-in-Case-clause-assigned t c = assigned_by_case _ _ _ _ _ _ _ _ _ _ c.in-Case.is c.deref-in-Case.ensures.value c.in_ok-walk_case-in-Case.ensures.assigned
