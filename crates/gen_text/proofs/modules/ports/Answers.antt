use Rattle.std.proofs.Common.{◌≡◌, ◌-◌, true, false, map, sym, ◌∙◌}
use Rattle.std.proofs.lemmas.List.{map-append}
use Rattle.std.proofs.lemmas.Result.{err_from_is_err_and}
use Rattle.gen_token.specs.Words.{placed}
use Rattle.gen_tree.specs.View.{port_of}
use Rattle.gen_text.specs.Reading.{each_at, begins_port, port_at}
use Rattle.gen_text.proofs.Loops.{front_none, each_turn, each_fails, each_ends, shorter}
use Rattle.gen_text.proofs.ModulesRead.{ports_shorten}
use Rattle.gen_text.proofs.modules.ports.Goals as goal

pub turns-init : goal.turns-init
turns-init c = rw (c.new-all.ensures.items, c.in_ok-rest.ensures.exact) (front_none (each_at begins_port (port_at (c.args.room - 1)) (placed c.in_ok-rest.rest.now)))

pub returns-in_err-one-clause-exact : goal.returns-in_err-one-clause-exact
returns-in_err-one-clause-exact c =
    let p = err_from_is_err_and c.from_residual-in_err-one.result c.from_residual-in_err-one.ensures.1 in
    let here : begins_port (placed c.turns.rest.now) ≡ true = sym c.begins_port.ensures ∙ c.turns-test.true in
    rw (p.1, p.2) (each_fails c.in_err-one.field-0.0 begins_port (port_at (c.args.room - 1)) (map port_of c.turns.all.items) (placed c.turns.rest.now) _ here c.in_err-one.ensures c.turns.invariant)

pub turns-smaller : goal.turns-smaller
turns-smaller c = shorter (port_at (c.args.room - 1)) (port_of c.in_ok-one.one) c.turns.rest.now c.in_ok-one.after.now (ports_shorten (c.args.room - 1)) c.in_ok-one.ensures

pub turns-preserved : goal.turns-preserved
turns-preserved c =
    let here : begins_port (placed c.turns.rest.now) ≡ true = sym c.begins_port.ensures ∙ c.turns-test.true in
    rw (c.in_ok-push.ensures.items, map-append) (each_turn begins_port (port_at (c.args.room - 1)) (map port_of c.turns.all.items) (port_of c.in_ok-one.one) (placed c.turns.rest.now) (placed c.in_ok-one.after.now) _ (ports_shorten (c.args.room - 1)) here c.in_ok-one.ensures c.turns.invariant)

pub returns-clause-exact : goal.returns-clause-exact
returns-clause-exact c =
    let here : begins_port (placed c.turns.rest.now) ≡ false = sym c.begins_port.ensures ∙ c.turns-test.false in
    each_ends begins_port (port_at (c.args.room - 1)) (map port_of c.turns.all.items) (placed c.turns.rest.now) _ here c.turns.invariant
