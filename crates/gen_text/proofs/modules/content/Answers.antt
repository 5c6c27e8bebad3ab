use Rattle.std.proofs.Common.{◌≡◌, ◌-◌, true, false, map, sym, ap, ◌∙◌, refl}
use Rattle.std.proofs.lemmas.List.{map-append}
use Rattle.std.proofs.lemmas.Result.{err_from_is_err_and}
use Rattle.gen_token.specs.declared.Mark.TheVariants as mark
use Rattle.gen_token.specs.Words.{placed}
use Rattle.gen_tree.specs.Tree.{items}
use Rattle.gen_tree.specs.View.{item_of}
use Rattle.gen_text.specs.Forms.{is_mark}
use Rattle.gen_text.specs.Reading.{begins, seen, until_at, item_at}
use Rattle.gen_text.proofs.Loops.{front_none, body_turn, body_fails, body_ends, closes_not, shorter, fails_then}
use Rattle.gen_text.proofs.OnlyItems.{item_opened, items_bodies}
use Rattle.gen_text.proofs.modules.content.Goals as goal

pub turns-init : goal.turns-init
turns-init c = rw c.new-all.ensures.items (ap (seen items) (front_none (until_at (item_at (c.args.room - 1)) (placed c.in_ok-ports.rest.now))))

pub returns-in_err-one : goal.returns-in_err-one
returns-in_err-one c =
    let p = err_from_is_err_and c.from_residual-in_err-one.result c.from_residual-in_err-one.ensures.1 in
    let here : begins (is_mark mark.RightBrace) (placed c.turns.rest.now) ≡ false = sym c.begins_mark.ensures ∙ c.turns-test.true in
    rw (p.1, p.2, c.in_ok-ports.ensures.exact) (fails_then _ _ _ (body_fails items (item_at (c.args.room - 1)) c.in_err-one.field-0.0 (map item_of c.turns.all.items) (placed c.turns.rest.now) _ here (rw (item_opened (c.args.room - 1)) c.in_err-one.ensures) c.turns.invariant))

pub turns-smaller : goal.turns-smaller
turns-smaller c = shorter (item_at (c.args.room - 1)) (item_of c.in_ok-one.one) c.turns.rest.now c.in_ok-one.after.now (items_bodies.shorten (c.args.room - 1)) (item_opened (c.args.room - 1) (placed c.turns.rest.now) ∙ c.in_ok-one.ensures)

pub turns-preserved : goal.turns-preserved
turns-preserved c =
    let here : begins (is_mark mark.RightBrace) (placed c.turns.rest.now) ≡ false = sym c.begins_mark.ensures ∙ c.turns-test.true in
    rw (c.in_ok-push.ensures.items, map-append) (body_turn items_bodies (c.args.room - 1) (map item_of c.turns.all.items) (item_of c.in_ok-one.one) (placed c.turns.rest.now) (placed c.in_ok-one.after.now) _ here (item_opened (c.args.room - 1) (placed c.turns.rest.now) ∙ c.in_ok-one.ensures) c.turns.invariant)

pub returns-in_err-rest : goal.returns-in_err-rest
returns-in_err-rest c =
    let p = err_from_is_err_and c.from_residual-in_err-rest.result c.from_residual-in_err-rest.ensures.1 in
    let here : begins (is_mark mark.RightBrace) (placed c.turns.rest.now) ≡ true = sym c.begins_mark.ensures ∙ c.turns-test.false in
    rw (p.1, p.2) (closes_not c.in_err-rest.field-0.0 (placed c.turns.rest.now) _ here c.in_err-rest.ensures)

pub returns : goal.returns
returns c =
    let here : begins (is_mark mark.RightBrace) (placed c.turns.rest.now) ≡ true = sym c.begins_mark.ensures ∙ c.turns-test.false in
    let all = body_ends items (item_at (c.args.room - 1)) (map item_of c.turns.all.items) (placed c.turns.rest.now) (placed c.in_ok-rest.rest.now) _ here c.in_ok-rest.ensures c.turns.invariant in
    rw (c.in_ok-ports.ensures.exact, all) refl
