use Rattle.std.proofs.Common.{◌≡◌, ◌-◌, true, false, map, sym, ◌∙◌}
use Rattle.std.proofs.lemmas.List.{map-append}
use Rattle.std.proofs.lemmas.Result.{err_from_is_err_and}
use Rattle.gen_token.specs.declared.Mark.TheVariants as mark
use Rattle.gen_token.specs.Words.{placed}
use Rattle.gen_tree.specs.View.{conn_of}
use Rattle.gen_text.specs.Forms.{is_mark}
use Rattle.gen_text.specs.Reading.{begins, until_at, conn_at}
use Rattle.gen_text.proofs.Loops.{front_none, until_turn, until_fails, until_ends, closes_not, shorter}
use Rattle.gen_text.proofs.ItemsRead.{conns_shorten}
use Rattle.gen_text.proofs.members.conns.Goals as goal

pub turns-init : goal.turns-init
turns-init c = rw (c.new-all.ensures.items, c.in_ok-rest.ensures.exact) (front_none (until_at (conn_at (c.args.room - 1)) (placed c.in_ok-rest.rest.now)))

pub returns-in_err-one : goal.returns-in_err-one
returns-in_err-one c =
    let p = err_from_is_err_and c.from_residual-in_err-one.result c.from_residual-in_err-one.ensures.1 in
    let here : begins (is_mark mark.RightBrace) (placed c.turns.rest.now) ≡ false = sym c.begins_mark.ensures ∙ c.turns-test.true in
    rw (p.1, p.2) (until_fails c.in_err-one.field-0.0 (conn_at (c.args.room - 1)) (map conn_of c.turns.all.items) (placed c.turns.rest.now) _ here c.in_err-one.ensures c.turns.invariant)

pub turns-smaller : goal.turns-smaller
turns-smaller c = shorter (conn_at (c.args.room - 1)) (conn_of c.in_ok-one.one) c.turns.rest.now c.in_ok-one.after.now (conns_shorten (c.args.room - 1)) c.in_ok-one.ensures

pub turns-preserved : goal.turns-preserved
turns-preserved c =
    let here : begins (is_mark mark.RightBrace) (placed c.turns.rest.now) ≡ false = sym c.begins_mark.ensures ∙ c.turns-test.true in
    rw (c.in_ok-push.ensures.items, map-append) (until_turn (conn_at (c.args.room - 1)) (map conn_of c.turns.all.items) (conn_of c.in_ok-one.one) (placed c.turns.rest.now) (placed c.in_ok-one.after.now) _ (conns_shorten (c.args.room - 1)) here c.in_ok-one.ensures c.turns.invariant)

pub returns-in_err-rest-2 : goal.returns-in_err-rest-2
returns-in_err-rest-2 c =
    let p = err_from_is_err_and c.from_residual-in_err-rest-2.result c.from_residual-in_err-rest-2.ensures.1 in
    let here : begins (is_mark mark.RightBrace) (placed c.turns.rest.now) ≡ true = sym c.begins_mark.ensures ∙ c.turns-test.false in
    rw (p.1, p.2) (closes_not c.in_err-rest-2.field-0.0 (placed c.turns.rest.now) _ here c.in_err-rest-2.ensures)

pub returns : goal.returns
returns c =
    let here : begins (is_mark mark.RightBrace) (placed c.turns.rest.now) ≡ true = sym c.begins_mark.ensures ∙ c.turns-test.false in
    until_ends (conn_at (c.args.room - 1)) (map conn_of c.turns.all.items) (placed c.turns.rest.now) (placed c.in_ok-rest-2.rest.now) _ here c.in_ok-rest-2.ensures c.turns.invariant
