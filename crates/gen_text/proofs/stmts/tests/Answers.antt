use Rattle.std.proofs.Common.{◌≡◌, true, false, map, sym, ◌∙◌}
use Rattle.std.proofs.lemmas.List.{map-append}
use Rattle.std.proofs.lemmas.Result.{err_from_is_err_and}
use Rattle.gen_token.specs.Words.{placed}
use Rattle.gen_tree.specs.View.{lit_of}
use Rattle.gen_text.specs.Reading.{each_at, begins_test, more_test_at}
use Rattle.gen_text.proofs.Loops.{list_begins, each_turn, each_fails, each_ends, shorter}
use Rattle.gen_text.proofs.CasesRead.{tests_shorten}
use Rattle.gen_text.proofs.stmts.tests.Goals as goal

pub turns-init : goal.turns-init
turns-init c =
    rw (c.in_ok-push.ensures.items, c.new-all.ensures.items, c.in_ok-first.ensures) (list_begins (lit_of c.in_ok-first.first) (each_at begins_test (more_test_at c.args.room) (placed c.in_ok-first.rest.now)))

pub returns-in_err-one : goal.returns-in_err-one
returns-in_err-one c =
    let p = err_from_is_err_and c.from_residual-in_err-one.result c.from_residual-in_err-one.ensures.1 in
    let here : begins_test (placed c.turns.rest.now) ≡ true = sym c.begins_mark.ensures ∙ c.turns-test.true in
    rw (p.1, p.2) (each_fails c.in_err-one.field-0.0 begins_test (more_test_at c.args.room) (map lit_of c.turns.all.items) (placed c.turns.rest.now) _ here c.in_err-one.ensures c.turns.invariant)

pub turns-smaller : goal.turns-smaller
turns-smaller c = shorter (more_test_at c.args.room) (lit_of c.in_ok-one.one) c.turns.rest.now c.in_ok-one.after.now (tests_shorten c.args.room) c.in_ok-one.ensures

pub turns-preserved : goal.turns-preserved
turns-preserved c =
    let here : begins_test (placed c.turns.rest.now) ≡ true = sym c.begins_mark.ensures ∙ c.turns-test.true in
    rw (c.in_ok-push-2.ensures.items, map-append) (each_turn begins_test (more_test_at c.args.room) (map lit_of c.turns.all.items) (lit_of c.in_ok-one.one) (placed c.turns.rest.now) (placed c.in_ok-one.after.now) _ (tests_shorten c.args.room) here c.in_ok-one.ensures c.turns.invariant)

pub returns : goal.returns
returns c =
    let here : begins_test (placed c.turns.rest.now) ≡ false = sym c.begins_mark.ensures ∙ c.turns-test.false in
    each_ends begins_test (more_test_at c.args.room) (map lit_of c.turns.all.items) (placed c.turns.rest.now) _ here c.turns.invariant
