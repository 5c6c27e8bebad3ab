use Rattle.std.proofs.Common.{◌∙◌, map, sym, ap, Err}
use Rattle.std.proofs.lemmas.Result.{err_from_is_err_and}
use Rattle.gen_tree.specs.View.{module_of, param_of}
use Rattle.gen_scope.specs.Gens.{Gens}
use Rattle.elab_core.specs.Walk.{Gives}
use Rattle.elab_walk.proofs.Exits.{exit_answers}
use Rattle.elab_walk.proofs.ValueSteps.{values_twice, values_fault, values_done}
use Rattle.elab_walk.proofs.values.values.Goals as goal

pub returns-in_err-names : goal.returns-in_err-names
returns-in_err-names c =
    let p = err_from_is_err_and c.from_residual.result c.from_residual.ensures.1 in
    exit_answers _ _ _ _ (p.1 ∙ ap (λ x. Err x) p.2)
    (λ known. values_twice c.args.line c.args.scope.now (module_of c.args.found.now) (map param_of c.args.args.now) _ (c.in_err-names.ensures.distinct known))

pub returns-in_err-params : goal.returns-in_err-params
returns-in_err-params c =
    let p = err_from_is_err_and c.from_residual-in_err-params.result c.from_residual-in_err-params.ensures.1 in
    exit_answers _ _ _ _ (p.1 ∙ ap (λ x. Err x) p.2)
    (λ known. values_fault c.args.line c.args.scope.now (module_of c.args.found.now) (map param_of c.args.args.now) c.in_ok-names.names c.in_ok-given.given _
    c.in_ok-names.ensures.distinct c.in_ok-names.ensures.names c.in_ok-given.ensures (c.in_err-params.ensures known))

pub returns : goal.returns
returns c = values_done c.args.line c.args.scope.now (module_of c.args.found.now) (map param_of c.args.args.now) c.in_ok-names.names c.in_ok-given.given c.in_ok-params.params
    c.in_ok-names.ensures.distinct c.in_ok-names.ensures.names c.in_ok-given.ensures c.in_ok-params.ensures
    ∙ ap (λ (params : Gens). Gives params) (sym c.in_ok-shared.ensures)
