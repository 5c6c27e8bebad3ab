use Rattle.std.proofs.Common.{◌≡◌, true, false, [], map, sym, ◌∙◌}
use Rattle.std.proofs.lemmas.List.{map-append}
use Rattle.std.proofs.lemmas.Result.{err_from_is_err_and}
use Rattle.gen_token.specs.Words.{placed}
use Rattle.gen_tree.specs.View.{import_of}
use Rattle.gen_text.specs.Reading.{begins_import, import_at, imports_at}
use Rattle.gen_text.proofs.Loops.{front_none, each_turn, each_fails, each_ends, shorter}
use Rattle.gen_text.proofs.ImportsRead.{imports_shorten}
use Rattle.gen_text.proofs.imports.import_list.Goals as goal

pub returns-in_err-first : goal.returns-in_err-first
returns-in_err-first c =
    let p = err_from_is_err_and c.from_residual.result c.from_residual.ensures.1 in
    rw (p.1, p.2) (each_fails c.in_err-first.field-0.0 begins_import import_at [] (placed c.args.tokens.now) _ c.requires c.in_err-first.ensures (front_none (imports_at (placed c.args.tokens.now))))

pub turns-init : goal.turns-init
turns-init c =
    rw (c.in_ok-push.ensures.items, c.new-all.ensures.items) (each_turn begins_import import_at [] (import_of c.in_ok-first.first) (placed c.args.tokens.now) (placed c.in_ok-first.rest.now) _ imports_shorten c.requires c.in_ok-first.ensures (front_none (imports_at (placed c.args.tokens.now))))

pub returns-in_err-one : goal.returns-in_err-one
returns-in_err-one c =
    let p = err_from_is_err_and c.from_residual-in_err-one.result c.from_residual-in_err-one.ensures.1 in
    let here : begins_import (placed c.turns.rest.now) ≡ true = sym c.begins_keyword.ensures ∙ c.turns-test.true in
    rw (p.1, p.2) (each_fails c.in_err-one.field-0.0 begins_import import_at (map import_of c.turns.all.items) (placed c.turns.rest.now) _ here c.in_err-one.ensures c.turns.invariant)

pub turns-smaller : goal.turns-smaller
turns-smaller c = shorter import_at (import_of c.in_ok-one.one) c.turns.rest.now c.in_ok-one.after.now imports_shorten c.in_ok-one.ensures

pub turns-preserved : goal.turns-preserved
turns-preserved c =
    let here : begins_import (placed c.turns.rest.now) ≡ true = sym c.begins_keyword.ensures ∙ c.turns-test.true in
    rw (c.in_ok-push-2.ensures.items, map-append) (each_turn begins_import import_at (map import_of c.turns.all.items) (import_of c.in_ok-one.one) (placed c.turns.rest.now) (placed c.in_ok-one.after.now) _ imports_shorten here c.in_ok-one.ensures c.turns.invariant)

pub returns : goal.returns
returns c =
    let here : begins_import (placed c.turns.rest.now) ≡ false = sym c.begins_keyword.ensures ∙ c.turns-test.false in
    each_ends begins_import import_at (map import_of c.turns.all.items) (placed c.turns.rest.now) _ here c.turns.invariant
