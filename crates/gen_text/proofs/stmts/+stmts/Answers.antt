use Rattle.std.proofs.Common.{◌≡◌, ◌-◌, false, true, map, Ok, sym, ap, ◌∙◌}
use Rattle.std.proofs.lemmas.List.{map-append}
use Rattle.std.proofs.lemmas.Result.{err_from_is_err_and}
use Rattle.gen_token.specs.declared.Mark.TheVariants as mark
use Rattle.gen_token.specs.Words.{placed}
use Rattle.gen_tree.specs.Tree.{stmts}
use Rattle.gen_tree.specs.View.{expr_of, arm_of, arms_of, else_of, stmt_of}
use Rattle.gen_tree.proofs.Views.{stmt_case}
use Rattle.gen_text.specs.Forms.{is_mark}
use Rattle.gen_text.specs.Reading.{inner_arms, begins, each_at, stmt_at, inner_stmts, arm_at, begins_arm}
use Rattle.gen_text.proofs.Loops.{list_begins, each_turn, each_fails, each_ends, body_begins, body_turn, body_fails, body_ends, closes_not, shorter}
use Rattle.gen_text.proofs.OnlyStmts.{within_case, case_done, case_fails, stmt_opened, stmts_shorten, stmts_bodies, arms_shorten}
use Rattle.gen_text.proofs.stmts.+stmts.Goals as goal

pub block-turns-init : goal.block-turns-init
block-turns-init t c =
    rw c.new-all.ensures.items (body_begins (stmts_bodies c.args.clocked) c.args.room (placed c.args.tokens.now) (placed c.in_ok-rest.rest.now) c.in_ok-rest.ensures.room c.in_ok-rest.ensures.exact)

pub block-returns-in_err-one : goal.block-returns-in_err-one
block-returns-in_err-one t c =
    let p = err_from_is_err_and c.from_residual-in_err-one.result c.from_residual-in_err-one.ensures.1 in
    let here : begins (is_mark mark.RightBrace) (placed c.turns.rest.now) ≡ false = sym c.begins_mark.ensures ∙ c.turns-test.true in
    rw (p.1, p.2) (body_fails stmts (stmt_at c.args.clocked (c.args.room - 1)) c.in_err-one.field-0.0 (map stmt_of c.turns.all.items) (placed c.turns.rest.now) _ here (rw (stmt_opened c.args.clocked (c.args.room - 1)) c.in_err-one.ensures) c.turns.invariant)

pub block-turns-smaller : goal.block-turns-smaller
block-turns-smaller t c = shorter (stmt_at c.args.clocked (c.args.room - 1)) (stmt_of c.in_ok-one.one) c.turns.rest.now c.in_ok-one.after.now (stmts_shorten c.args.clocked (c.args.room - 1)) (stmt_opened c.args.clocked (c.args.room - 1) (placed c.turns.rest.now) ∙ c.in_ok-one.ensures)

pub block-turns-preserved : goal.block-turns-preserved
block-turns-preserved t c =
    let here : begins (is_mark mark.RightBrace) (placed c.turns.rest.now) ≡ false = sym c.begins_mark.ensures ∙ c.turns-test.true in
    rw (c.in_ok-push.ensures.items, map-append) (body_turn (stmts_bodies c.args.clocked) (c.args.room - 1) (map stmt_of c.turns.all.items) (stmt_of c.in_ok-one.one) (placed c.turns.rest.now) (placed c.in_ok-one.after.now) _ here (stmt_opened c.args.clocked (c.args.room - 1) (placed c.turns.rest.now) ∙ c.in_ok-one.ensures) c.turns.invariant)

pub block-returns-in_err-rest-2 : goal.block-returns-in_err-rest-2
block-returns-in_err-rest-2 t c =
    let p = err_from_is_err_and c.from_residual-in_err-rest-2.result c.from_residual-in_err-rest-2.ensures.1 in
    let here : begins (is_mark mark.RightBrace) (placed c.turns.rest.now) ≡ true = sym c.begins_mark.ensures ∙ c.turns-test.false in
    rw (p.1, p.2) (closes_not c.in_err-rest-2.field-0.0 (placed c.turns.rest.now) _ here c.in_err-rest-2.ensures)

pub block-returns : goal.block-returns
block-returns t c =
    let here : begins (is_mark mark.RightBrace) (placed c.turns.rest.now) ≡ true = sym c.begins_mark.ensures ∙ c.turns-test.false in
    body_ends stmts (stmt_at c.args.clocked (c.args.room - 1)) (map stmt_of c.turns.all.items) (placed c.turns.rest.now) (placed c.in_ok-rest-2.rest.now) _ here c.in_ok-rest-2.ensures c.turns.invariant

-- ---- arms

pub arm_list-turns-init : goal.arm_list-turns-init
arm_list-turns-init t c =
    rw (c.in_ok-push.ensures.items, c.new-all.ensures.items, c.in_ok-first.ensures) (list_begins (arm_of c.in_ok-first.first) (each_at begins_arm (arm_at c.args.room (inner_stmts c.args.clocked c.args.room)) (placed c.in_ok-first.rest.now)))

pub arm_list-returns-in_err-one : goal.arm_list-returns-in_err-one
arm_list-returns-in_err-one t c =
    let p = err_from_is_err_and c.from_residual-in_err-one.result c.from_residual-in_err-one.ensures.1 in
    let here : begins_arm (placed c.turns.rest.now) ≡ true = sym c.begins_lit.ensures ∙ c.turns-test.true in
    rw (p.1, p.2) (each_fails c.in_err-one.field-0.0 begins_arm (arm_at c.args.room (inner_stmts c.args.clocked c.args.room)) (map arm_of c.turns.all.items) (placed c.turns.rest.now) _ here c.in_err-one.ensures c.turns.invariant)

pub arm_list-turns-smaller : goal.arm_list-turns-smaller
arm_list-turns-smaller t c = shorter (arm_at c.args.room (inner_stmts c.args.clocked c.args.room)) (arm_of c.in_ok-one.one) c.turns.rest.now c.in_ok-one.after.now (arms_shorten c.args.clocked c.args.room) c.in_ok-one.ensures

pub arm_list-turns-preserved : goal.arm_list-turns-preserved
arm_list-turns-preserved t c =
    let here : begins_arm (placed c.turns.rest.now) ≡ true = sym c.begins_lit.ensures ∙ c.turns-test.true in
    rw (c.in_ok-push-2.ensures.items, map-append) (each_turn begins_arm (arm_at c.args.room (inner_stmts c.args.clocked c.args.room)) (map arm_of c.turns.all.items) (arm_of c.in_ok-one.one) (placed c.turns.rest.now) (placed c.in_ok-one.after.now) _ (arms_shorten c.args.clocked c.args.room) here c.in_ok-one.ensures c.turns.invariant)

pub arm_list-returns : goal.arm_list-returns
arm_list-returns t c =
    let here : begins_arm (placed c.turns.rest.now) ≡ false = sym c.begins_lit.ensures ∙ c.turns-test.false in
    each_ends begins_arm (arm_at c.args.room (inner_stmts c.args.clocked c.args.room)) (map arm_of c.turns.all.items) (placed c.turns.rest.now) _ here c.turns.invariant

pub select-returns-in_err-arms : goal.select-returns-in_err-arms
select-returns-in_err-arms t c =
    let p = err_from_is_err_and c.from_residual-in_err-arms.result c.from_residual-in_err-arms.ensures.1 in
    rw (p.1, p.2) (case_fails c.in_err-arms.field-0.0 c.args.room c.args.line (inner_arms c.args.clocked c.args.room) (expr_of c.in_ok-value.value) (placed c.args.tokens.now) (placed c.in_ok-value.rest.now) (placed c.in_ok-rest.rest.now)
    c.in_ok-value.ensures c.in_ok-rest.ensures.exact (rw (within_case c.args.clocked c.args.room c.in_ok-rest.ensures.room) c.in_err-arms.ensures))

pub select-returns : goal.select-returns
select-returns t c =
    case_done c.args.room c.args.line (inner_arms c.args.clocked c.args.room) (expr_of c.in_ok-value.value) (arms_of c.in_ok-arms.arms.items, else_of c.in_ok-arms.other) (placed c.args.tokens.now) (placed c.in_ok-value.rest.now) (placed c.in_ok-rest.rest.now) (placed c.in_ok-arms.rest.now)
    c.in_ok-value.ensures c.in_ok-rest.ensures.exact (rw (within_case c.args.clocked c.args.room c.in_ok-rest.ensures.room) c.in_ok-arms.ensures)
    ∙ ap (λ s. Ok (s, placed c.in_ok-arms.rest.now)) (sym (stmt_case c.args.line c.in_ok-value.value c.in_ok-arms.arms c.in_ok-arms.other))
