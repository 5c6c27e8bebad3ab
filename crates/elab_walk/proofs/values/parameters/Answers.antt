use Rattle.std.proofs.Common.{◌≡◌, ◌∙◌, ◌++◌, ◌∷◌, [], map, sym, ap, Err, arith}
use Rattle.std.proofs.lemmas.Grind.{common_steps}
use Rattle.std.proofs.lemmas.Result.{err_from_is_err_and}
use Rattle.gen_tree.specs.View.{param_of}
use Rattle.elab_core.specs.Numbers.{find}
use Rattle.elab_core.specs.Elab.{distinct, parameters}
use Rattle.elab_walk.proofs.Exits.{exit_answers}
use Rattle.elab_walk.proofs.ValueSteps.{done_none, done_new, done_more, done_fault, done_end}
use Rattle.elab_walk.proofs.values.parameters.Goals as goal

pub loop-param-init : goal.loop-param-init
loop-param-init c =
    done_none c.args.found.now.line c.deref-param-items.result.now c.args.given.now c.new-done.result
    (ap (λ xs. distinct c.args.found.now.line [] (map param_of xs)) c.deref-param-items.ensures.value ∙ c.requires) c.new-done.ensures

pub returns-in_err-number : goal.returns-in_err-number
returns-in_err-number c =
    let p = err_from_is_err_and c.from_residual.result c.from_residual.ensures.1 in
    exit_answers _ _ _ _ (p.1 ∙ ap (λ x. Err x) p.2)
    (λ known. ap (λ xs. parameters c.args.found.now.line (map param_of xs) c.args.given.now []) (sym c.deref-param-items.ensures.value)
    ∙ done_fault c.args.found.now.line c.deref-param-items.result.now c.args.given.now c.loop-param.param-index c.param-item.result c.loop-param.done _
    c.loop-param-test.true c.param-item.is c.loop-param.invariant (c.in_err-number.ensures known))

pub push-requires : goal.push-requires
push-requires c =
    ap (find c.loop-param.done) c.bytes.ensures
    ∙ done_new c.args.found.now.line c.deref-param-items.result.now c.args.given.now c.loop-param.param-index c.param-item.result c.loop-param.done c.loop-param-test.true c.param-item.is c.loop-param.invariant

pub loop-param-preserved : goal.loop-param-preserved
loop-param-preserved c =
    let put : c.push.new.self ≡ c.loop-param.done ++ (c.param-item.result.name, c.in_ok-number.number) ∷ [] = grind (arith, common_steps, c.in_ok-push.ensures, c.bytes.ensures) in
    done_more c.args.found.now.line c.deref-param-items.result.now c.args.given.now c.loop-param.param-index c.param-item.result c.loop-param.done c.push.new.self c.in_ok-number.number
    c.loop-param-test.true c.param-item.is c.loop-param.invariant c.in_ok-number.ensures put

pub returns : goal.returns
returns c =
    ap (λ xs. parameters c.args.found.now.line (map param_of xs) c.args.given.now []) (sym c.deref-param-items.ensures.value)
    ∙ done_end c.args.found.now.line c.deref-param-items.result.now c.args.given.now c.loop-param.param-index c.loop-param.done c.loop-param-test.false c.loop-param.invariant
