use Rattle.std.proofs.Common.{◌≡◌, ◌-◌, false, true, map, sym, ◌∙◌}
use Rattle.std.proofs.lemmas.List.{map-append}
use Rattle.std.proofs.lemmas.Result.{err_from_is_err_and}
use Rattle.gen_token.specs.declared.Mark.TheVariants as mark
use Rattle.gen_token.specs.Words.{placed}
use Rattle.gen_tree.specs.Tree.{items}
use Rattle.gen_tree.specs.View.{item_of}
use Rattle.gen_text.specs.Forms.{is_mark}
use Rattle.gen_text.specs.Reading.{begins, item_at}
use Rattle.gen_text.proofs.Loops.{body_begins, body_turn, body_fails, body_ends, closes_not, shorter}
use Rattle.gen_text.proofs.OnlyItems.{item_opened, items_bodies}
use Rattle.gen_text.proofs.items.+items.Goals as goal

pub item_block-turns-init : goal.item_block-turns-init
item_block-turns-init t c =
    rw c.new-all.ensures.items (body_begins items_bodies c.args.room (placed c.args.tokens.now) (placed c.in_ok-rest.rest.now) c.in_ok-rest.ensures.room c.in_ok-rest.ensures.exact)

pub item_block-returns-in_err-one : goal.item_block-returns-in_err-one
item_block-returns-in_err-one t c =
    let p = err_from_is_err_and c.from_residual-in_err-one.result c.from_residual-in_err-one.ensures.1 in
    let here : begins (is_mark mark.RightBrace) (placed c.turns.rest.now) ≡ false = sym c.begins_mark.ensures ∙ c.turns-test.true in
    rw (p.1, p.2) (body_fails items (item_at (c.args.room - 1)) c.in_err-one.field-0.0 (map item_of c.turns.all.items) (placed c.turns.rest.now) _ here (rw (item_opened (c.args.room - 1)) c.in_err-one.ensures) c.turns.invariant)

pub item_block-turns-smaller : goal.item_block-turns-smaller
item_block-turns-smaller t c = shorter (item_at (c.args.room - 1)) (item_of c.in_ok-one.one) c.turns.rest.now c.in_ok-one.after.now (items_bodies.shorten (c.args.room - 1)) (item_opened (c.args.room - 1) (placed c.turns.rest.now) ∙ c.in_ok-one.ensures)

pub item_block-turns-preserved : goal.item_block-turns-preserved
item_block-turns-preserved t c =
    let here : begins (is_mark mark.RightBrace) (placed c.turns.rest.now) ≡ false = sym c.begins_mark.ensures ∙ c.turns-test.true in
    rw (c.in_ok-push.ensures.items, map-append) (body_turn items_bodies (c.args.room - 1) (map item_of c.turns.all.items) (item_of c.in_ok-one.one) (placed c.turns.rest.now) (placed c.in_ok-one.after.now) _ here (item_opened (c.args.room - 1) (placed c.turns.rest.now) ∙ c.in_ok-one.ensures) c.turns.invariant)

pub item_block-returns-in_err-rest-2 : goal.item_block-returns-in_err-rest-2
item_block-returns-in_err-rest-2 t c =
    let p = err_from_is_err_and c.from_residual-in_err-rest-2.result c.from_residual-in_err-rest-2.ensures.1 in
    let here : begins (is_mark mark.RightBrace) (placed c.turns.rest.now) ≡ true = sym c.begins_mark.ensures ∙ c.turns-test.false in
    rw (p.1, p.2) (closes_not c.in_err-rest-2.field-0.0 (placed c.turns.rest.now) _ here c.in_err-rest-2.ensures)

pub item_block-returns : goal.item_block-returns
item_block-returns t c =
    let here : begins (is_mark mark.RightBrace) (placed c.turns.rest.now) ≡ true = sym c.begins_mark.ensures ∙ c.turns-test.false in
    body_ends items (item_at (c.args.room - 1)) (map item_of c.turns.all.items) (placed c.turns.rest.now) (placed c.in_ok-rest-2.rest.now) _ here c.in_ok-rest-2.ensures c.turns.invariant
