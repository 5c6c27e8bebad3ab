use Rattle.std.proofs.Common.{◌∙◌, ℕ, List, None, sym, ap, Err, Ok}
use Rattle.std.proofs.lemmas.Result.{err_from_is_err_and}
use Rattle.gen_tree.specs.View.{module_of, lent_of}
use Rattle.elab_core.specs.Walk.{judge}
use Rattle.elab_core.specs.Elab.{module_walk, instance, instances_of}
use Rattle.elab_base.specs.Met.{met_of}
use Rattle.elab_body.proofs.Exits.{exit_judged}
use Rattle.elab_walk.specs.Walked.{made_of}
use Rattle.elab_walk.proofs.TopCases.{top_fault_3, top_fault_4, top_done}
use Rattle.elab_walk.proofs.top.instances.Goals as goal

pub returns-in_err-take : goal.returns-in_err-take
returns-in_err-take c =
    let p = err_from_is_err_and c.from_residual-in_err-take.result c.from_residual-in_err-take.ensures.1 in
    exit_judged _ _ _ _ _ (p.1 ∙ ap (λ x. Err x) p.2)
    (λ known. top_fault_3 _ _ _ _ _ _ _ _ c.in_ok-place.ensures c.in_ok-params.ensures (c.in_err-take.ensures.judged known))

pub returns-in_err-made : goal.returns-in_err-made
returns-in_err-made c =
    let p = err_from_is_err_and c.from_residual-in_err-made.result c.from_residual-in_err-made.ensures.1 in
    exit_judged _ _ _ _ _ (p.1 ∙ ap (λ x. Err x) p.2)
    (λ known. top_fault_4 (lent_of c.args.modules.now.all.now) c.args.top.now c.args.given.now c.in_ok-place.place (module_of c.in_ok-place.found.now) c.in_ok-params.params (met_of c.args.met.now) (met_of c.take.new.self) _
    c.in_ok-place.ensures c.in_ok-params.ensures c.in_ok-take.ensures.judged
    (ap (λ (y : List ℕ). judge (met_of c.take.new.self) (module_walk (lent_of c.args.modules.now.all.now) (instance (lent_of c.args.modules.now.all.now) 32) (record { path = y; number = 0 }) (module_of c.in_ok-place.found.now) c.in_ok-params.params)) (sym c.in_ok-path.ensures)
    ∙ c.in_err-made.ensures.judged known))

pub returns : goal.returns
returns c =
    top_done (lent_of c.args.modules.now.all.now) c.args.top.now c.args.given.now c.in_ok-place.place (module_of c.in_ok-place.found.now) c.in_ok-params.params (made_of c.in_ok-made.made) (met_of c.args.met.now) (met_of c.take.new.self) (met_of c.body_of.new.met)
    c.in_ok-place.ensures c.in_ok-params.ensures c.in_ok-take.ensures.judged
    (ap (λ (y : List ℕ). judge (met_of c.take.new.self) (module_walk (lent_of c.args.modules.now.all.now) (instance (lent_of c.args.modules.now.all.now) 32) (record { path = y; number = 0 }) (module_of c.in_ok-place.found.now) c.in_ok-params.params)) (sym c.in_ok-path.ensures)
    ∙ c.in_ok-made.ensures.judged)
    ∙ sym (ap (λ all. Ok (all, met_of c.body_of.new.met)) (c.in_ok-all.ensures.instances
    ∙ ap (λ (y : List ℕ). instances_of y None c.in_ok-place.place c.in_ok-params.params (made_of c.in_ok-made.made)) c.in_ok-path.ensures))
