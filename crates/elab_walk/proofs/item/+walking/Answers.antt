use Rattle.std.proofs.Common.{ℕ, ℤ, ◌<◌, ◌∙◌, [], ◌++◌, codes, if◌then◌else◌, map, sym, ap, subst, refl, Err, arith, w64}
use Rattle.std.proofs.lemmas.Int.{to_z-of_z}
use Rattle.std.proofs.lemmas.Result.{err_from_is_err_and}
use Rattle.gen_scope.specs.Gens.{bound}
use Rattle.gen_tree.specs.View.{param_of, conn_of, item_of, items_of, else_items_of, port_of, module_of}
use Rattle.gen_tree.proofs.Views.{item_inst, item_given}
use Rattle.elab_core.specs.Results.{Judged}
use Rattle.elab_core.specs.Walk.{judge}
use Rattle.elab_core.specs.Elab.{ports, item_walk, items_walk, instance}
use Rattle.elab_base.specs.Met.{met_of}
use Rattle.elab_body.proofs.Exits.{exit_judged}
use Rattle.elab_walk.specs.Walked.{made_of, here_of, modules_in, enter_in, asked_of, else_items, entry}
use Rattle.elab_walk.proofs.GatherSteps.{made_many}
use Rattle.elab_walk.proofs.ItemCases.{turn_last_fault, given_fault, given_on, child_fault, inst_on, module_fault, module_items_fault, module_done, instance_refused, instance_fault, instance_done}
use Rattle.elab_walk.proofs.item.+walking.Goals as goal

pub body_of-returns-in_err-signals-clause-judged : goal.body_of-returns-in_err-signals-clause-judged
body_of-returns-in_err-signals-clause-judged t c =
    let p = err_from_is_err_and c.from_residual.result c.from_residual.ensures.1 in
    exit_judged _ _ _ _ _ (p.1 ∙ ap (λ x. Err x) p.2)
    (λ known. module_fault (modules_in c.args.walker.now) (enter_in c.args.walker.now) (here_of c.args.walker.now.here.now) (module_of c.args.found.now) c.args.walker.now.scope.now (met_of c.args.met.now) _
    (ap (λ xs. judge (met_of c.args.met.now) (ports (map port_of xs) c.args.walker.now.scope.now [])) (sym c.deref.ensures.value) ∙ c.in_err-signals.ensures.judged known))

pub body_of-returns-in_err-items-clause-judged : goal.body_of-returns-in_err-items-clause-judged
body_of-returns-in_err-items-clause-judged t c =
    let p = err_from_is_err_and c.from_residual-in_err-items.result c.from_residual-in_err-items.ensures.1 in
    exit_judged _ _ _ _ _ (p.1 ∙ ap (λ x. Err x) p.2)
    (λ known. module_items_fault (modules_in c.args.walker.now) (enter_in c.args.walker.now) (here_of c.args.walker.now.here.now) (module_of c.args.found.now) c.args.walker.now.scope.now (met_of c.args.met.now)
    c.in_ok-signals.signals.items (met_of c.ports.new.met) (made_of c.begun-made.result) _
    (ap (λ xs. judge (met_of c.args.met.now) (ports (map port_of xs) c.args.walker.now.scope.now [])) (sym c.deref.ensures.value) ∙ c.in_ok-signals.ensures.judged)
    c.begun-made.ensures
    (ap (λ xs. judge (met_of c.ports.new.met) (items_walk (modules_in c.args.walker.now) (enter_in c.args.walker.now) (here_of c.args.walker.now.here.now) (items_of xs) c.args.walker.now.scope.now (made_of c.begun-made.result))) (sym c.deref-2.ensures.value)
    ∙ c.in_err-items.ensures.judged known))

pub body_of-returns-clause-judged : goal.body_of-returns-clause-judged
body_of-returns-clause-judged t c =
    module_done (modules_in c.args.walker.now) (enter_in c.args.walker.now) (here_of c.args.walker.now.here.now) (module_of c.args.found.now) c.args.walker.now.scope.now (met_of c.args.met.now)
    c.in_ok-signals.signals.items (met_of c.ports.new.met) _ (made_of c.begun-made.result) _
    (ap (λ xs. judge (met_of c.args.met.now) (ports (map port_of xs) c.args.walker.now.scope.now [])) (sym c.deref.ensures.value) ∙ c.in_ok-signals.ensures.judged)
    c.begun-made.ensures
    (ap (λ xs. judge (met_of c.ports.new.met) (items_walk (modules_in c.args.walker.now) (enter_in c.args.walker.now) (here_of c.args.walker.now.here.now) (items_of xs) c.args.walker.now.scope.now (made_of c.begun-made.result))) (sym c.deref-2.ensures.value)
    ∙ c.in_ok-items.ensures.judged)

pub child-returns-in_err-instances-clause-judged : goal.child-returns-in_err-instances-clause-judged
child-returns-in_err-instances-clause-judged t c =
    let p = err_from_is_err_and c.from_residual.result c.from_residual.ensures.1 in
    exit_judged _ _ _ _ _ (p.1 ∙ ap (λ x. Err x) p.2)
    (λ known. child_fault (enter_in c.args.walker.now) (here_of c.args.walker.now.here.now) (asked_of c.args.want (module_of c.args.found.now)) (made_of c.args.made.now) (met_of c.args.met.now) c.args.met.now.instances _
    c.requires.numbered (c.in_err-instances.ensures.judged known))

pub child-add_child-requires-clause-few : goal.child-add_child-requires-clause-few
child-add_child-requires-clause-few t c = omega (arith, c.in_ok-instances.ensures.number, c.requires.numbered, made_many c.args.made.now)

pub instances_below-returns-in_err-entry-clause-judged : goal.instances_below-returns-in_err-entry-clause-judged
instances_below-returns-in_err-entry-clause-judged t c =
    let p = err_from_is_err_and c.from_residual-in_err-entry.result c.from_residual-in_err-entry.ensures.1 in
    let some : 0 < c.args.walker.now.room = omega arith in
    exit_judged _ _ _ _ _ (p.1 ∙ ap (λ x. Err x) p.2)
    (λ known. instance_refused (modules_in c.args.walker.now) c.args.walker.now.room (asked_of c.args.want.now (module_of c.args.found.now)) (here_of c.args.walker.now.here.now) c.args.met.now.instances (met_of c.args.met.now) _ some
    (ap (λ xs. judge (met_of c.args.met.now) (entry c.args.want.now.line (map port_of xs))) (sym c.deref.ensures.value) ∙ c.in_err-entry.ensures.judged known))

pub instances_below-returns-in_err-made-clause-judged : goal.instances_below-returns-in_err-made-clause-judged
instances_below-returns-in_err-made-clause-judged t c =
    let p = err_from_is_err_and c.from_residual-in_err-made.result c.from_residual-in_err-made.ensures.1 in
    let some : 0 < c.args.walker.now.room = omega arith in
    exit_judged _ _ _ _ _ (p.1 ∙ ap (λ x. Err x) p.2)
    (λ known. ap (λ (k : ℕ). judge (met_of c.args.met.now) (instance (modules_in c.args.walker.now) c.args.walker.now.room (asked_of c.args.want.now (module_of c.args.found.now)) (here_of c.args.walker.now.here.now) k)) (sym c.next_number-number.ensures)
    ∙ instance_fault (modules_in c.args.walker.now) c.args.walker.now.room (asked_of c.args.want.now (module_of c.args.found.now)) (here_of c.args.walker.now.here.now) c.next_number-number.result (met_of c.args.met.now) _ _ _ _ some
    (ap (λ xs. judge (met_of c.args.met.now) (entry c.args.want.now.line (map port_of xs))) (sym c.deref.ensures.value) ∙ c.in_ok-entry.ensures.judged)
    refl (c.in_ok-path.ensures ∙ (λ i. c.bytes-2.ensures i ++ (codes "." ++ c.bytes-3.ensures i))) (c.in_err-made.ensures.judged known))

pub instances_below-returns-clause-judged : goal.instances_below-returns-clause-judged
instances_below-returns-clause-judged t c =
    let some : 0 < c.args.walker.now.room = omega arith in
    ap (λ (k : ℕ). judge (met_of c.args.met.now) (instance (modules_in c.args.walker.now) c.args.walker.now.room (asked_of c.args.want.now (module_of c.args.found.now)) (here_of c.args.walker.now.here.now) k)) (sym c.next_number-number.ensures)
    ∙ instance_done (modules_in c.args.walker.now) c.args.walker.now.room (asked_of c.args.want.now (module_of c.args.found.now)) (here_of c.args.walker.now.here.now) c.next_number-number.result (met_of c.args.met.now) _ _ _ _ _ _ some
    (ap (λ xs. judge (met_of c.args.met.now) (entry c.args.want.now.line (map port_of xs))) (sym c.deref.ensures.value) ∙ c.in_ok-entry.ensures.judged)
    refl (c.in_ok-path.ensures ∙ (λ i. c.bytes-2.ensures i ++ (codes "." ++ c.bytes-3.ensures i))) c.in_ok-made.ensures.judged c.in_ok-all.ensures.instances

pub instances_below-returns-clause-number : goal.instances_below-returns-clause-number
instances_below-returns-clause-number t c = omega (arith, c.next_number-number.ensures)

pub one_turn-returns-in_err-items-clause-judged : goal.one_turn-returns-in_err-items-clause-judged
one_turn-returns-in_err-items-clause-judged t c =
    let p = err_from_is_err_and c.from_residual-in_err-items.result c.from_residual-in_err-items.ensures.1 in
    exit_judged _ _ _ _ _ (p.1 ∙ ap (λ x. Err x) p.2)
    (λ known. turn_last_fault _ _ _ _ _ _ _ _ _ _ _ c.in_ok-take.ensures.judged
    (c.in_ok-inner.ensures ∙ ap (λ (n : ℤ). bound c.args.each.now.name.value n c.args.walker.now.scope.now) (to_z-of_z w64 c.args.number c.ranges.number))
    (c.in_err-items.ensures.judged known))

-- a `gen if`: its integers are faulty, or the branch that is taken is all that it is
pub generated-returns-in_err-holds-in-GenIf-clause-judged : goal.generated-returns-in_err-holds-in-GenIf-clause-judged
generated-returns-in_err-holds-in-GenIf-clause-judged t c =
    let p = err_from_is_err_and c.from_residual-in_err-holds-in-GenIf.result c.from_residual-in_err-holds-in-GenIf.ensures.1 in
    let written = ap (λ i. judge (met_of c.args.met.now) (item_walk (modules_in c.args.walker.now) (enter_in c.args.walker.now) (here_of c.args.walker.now.here.now) i c.args.walker.now.scope.now (made_of c.args.made.now))) (ap item_of c.in-GenIf.is ∙ item_given c.in-GenIf.line c.in-GenIf.left c.in-GenIf.cmp c.in-GenIf.right c.in-GenIf.yes c.in-GenIf.no) in
    exit_judged _ _ _ _ _ (p.1 ∙ ap (λ x. Err x) p.2)
    (λ known. written ∙ given_fault _ _ _ _ _ _ _ _ _ _ _ _ _ (c.in_err-holds-in-GenIf.ensures known))

pub generated-returns-in_ok-holds-in-GenIf-clause-judged : goal.generated-returns-in_ok-holds-in-GenIf-clause-judged
generated-returns-in_ok-holds-in-GenIf-clause-judged t c =
    let written = ap (λ i. judge (met_of c.args.met.now) (item_walk (modules_in c.args.walker.now) (enter_in c.args.walker.now) (here_of c.args.walker.now.here.now) i c.args.walker.now.scope.now (made_of c.args.made.now))) (ap item_of c.in-GenIf.is ∙ item_given c.in-GenIf.line c.in-GenIf.left c.in-GenIf.cmp c.in-GenIf.right c.in-GenIf.yes c.in-GenIf.no) in
    let chosen = c.branch_of.ensures ∙ ap (λ xs. if c.in_ok-holds-in-GenIf.holds then items_of xs else else_items (else_items_of c.in-GenIf.no)) c.deref-in-GenIf.ensures.value in
    subst (Judged _ c.items.result _) (sym (written ∙ given_on _ _ _ _ _ _ _ _ _ _ _ _ _ _ _ c.in_ok-holds-in-GenIf.ensures chosen refl)) c.items.ensures.judged

-- an `inst`: what is asked for, then the child
pub one_item-returns-in_ok-want-in-Inst-clause-judged : goal.one_item-returns-in_ok-want-in-Inst-clause-judged
one_item-returns-in_ok-want-in-Inst-clause-judged t c =
    let written = ap (λ i. judge (met_of c.args.met.now) (item_walk (modules_in c.args.walker.now) (enter_in c.args.walker.now) (here_of c.args.walker.now.here.now) i c.args.walker.now.scope.now (made_of c.args.made.now))) (ap item_of c.in-Inst.is ∙ item_inst c.in-Inst.line c.in-Inst.name c.in-Inst.module c.in-Inst.args c.in-Inst.conns) in
    subst (Judged _ c.child.result _) (sym (written ∙ inst_on _ _ _ _ _ _ _ _ _ _ _ _ _ _ _ _ _ c.bytes.ensures (ap (map param_of) c.deref.ensures.value) (ap (map conn_of) c.deref-in-Inst.ensures.value) c.in_ok-want-in-Inst.ensures.judged refl)) c.child.ensures.judged
