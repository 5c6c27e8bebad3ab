use Rattle.std.proofs.Common.{◌≡◌, ◌==◌, ℕ, true, false, length, ap, sym, ◌∙◌, arith}
use Rattle.std.proofs.lemmas.List.{map-append}
use Rattle.std.proofs.lemmas.Result.{err_from_is_err_and}
use Rattle.gen_token.specs.Words.{placed}
use Rattle.gen_tree.specs.View.{module_of, modules_of}
use Rattle.gen_text.specs.Reading.{modules_at}
use Rattle.gen_text.proofs.Loops.{placed_length}
use Rattle.gen_text.proofs.OnlyModules.{module_shorter}
use Rattle.gen_text.proofs.ModuleLoop.{first_turn, next_module, module_fails, first_fails, all_modules}
use Rattle.gen_text.proofs.modules.module_list.Goals as goal

pub returns-in_err-first : goal.returns-in_err-first
returns-in_err-first c =
    let p = err_from_is_err_and c.from_residual.result c.from_residual.ensures.1 in
    rw (p.1, p.2) (first_fails c.in_err-first.field-0.0 64 (placed c.args.tokens.now) c.in_err-first.ensures)

pub turns-init : goal.turns-init
turns-init c = rw (c.in_ok-push.ensures.items, c.new-all.ensures.items) (first_turn 64 (placed c.args.tokens.now) (placed c.in_ok-first.rest.now) (module_of c.in_ok-first.first) c.in_ok-first.ensures)

pub returns-in_err-one : goal.returns-in_err-one
returns-in_err-one c =
    let p = err_from_is_err_and c.from_residual-in_err-one.result c.from_residual-in_err-one.ensures.1 in
    let here : (length (placed c.turns.rest.now) == 0) ≡ false = ap (λ (n : ℕ). n == 0) (placed_length c.turns.rest.now) ∙ sym c.is_empty.ensures ∙ c.turns-test.true in
    rw (p.1, p.2) (module_fails c.in_err-one.field-0.0 64 (modules_of c.turns.all.items) (placed c.turns.rest.now) (modules_at 64 (placed c.args.tokens.now)) here c.in_err-one.ensures c.turns.invariant)

pub turns-smaller : goal.turns-smaller
turns-smaller c = omega (arith, module_shorter (module_of c.in_ok-one.one) 64 (placed c.turns.rest.now) (placed c.in_ok-one.after.now) c.in_ok-one.ensures, placed_length c.turns.rest.now, placed_length c.in_ok-one.after.now)

pub turns-preserved : goal.turns-preserved
turns-preserved c =
    let here : (length (placed c.turns.rest.now) == 0) ≡ false = ap (λ (n : ℕ). n == 0) (placed_length c.turns.rest.now) ∙ sym c.is_empty.ensures ∙ c.turns-test.true in
    rw (c.in_ok-push-2.ensures.items, map-append) (next_module 64 (modules_of c.turns.all.items) (placed c.turns.rest.now) (placed c.in_ok-one.after.now) (module_of c.in_ok-one.one) (modules_at 64 (placed c.args.tokens.now)) here c.in_ok-one.ensures c.turns.invariant)

pub returns : goal.returns
returns c =
    let here : (length (placed c.turns.rest.now) == 0) ≡ true = ap (λ (n : ℕ). n == 0) (placed_length c.turns.rest.now) ∙ sym c.is_empty.ensures ∙ c.turns-test.false in
    all_modules 64 (modules_of c.turns.all.items) (placed c.turns.rest.now) (modules_at 64 (placed c.args.tokens.now)) here c.turns.invariant
