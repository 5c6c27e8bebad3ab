use Rattle.std.proofs.Common.{refl, ap, ◌+◌, ◌<◌, ◌∙◌, arith, List, length, drop}
use Rattle.design_core.specs.declared.Stmt as code_stmt
use Rattle.design_core.specs.declared.statement.Arm as code_arm
use Rattle.design_core.specs.View.{body_of, arms_of, else_of, expr_of}
use Rattle.elab_core.specs.Design.{size, arms_size, numbered, numbered_arms}
use Rattle.gen_elab.proofs.Numbering.{if_numbered, at_step, next_step, at_end, cut, case_numbered, arm_at_step, arm_next_step, arms_at_end}
use Rattle.gen_elab.proofs.slots.+numbering.Goals as goal

pub number-loop-index-preserved : goal.number-loop-index-preserved
number-loop-index-preserved t c =
    let below : c.loop-index.index < length c.loop-index.body = omega (arith, c.loop-index-test.true, c.loop-index.auto.body) in
    let now = c.number_stmt-stmt in
    record {
      slots = at_step c.loop-index.body c.args.body.now c.loop-index.index c.args.first c.loop-index.next now.result.1 c.replace-stmt.result c.index-body-index.result c.replace-stmt.new.dest now.result.0 below c.replace-stmt.ensures.value now.ensures.slots now.ensures.next c.loop-index.invariant.slots;
      next = next_step c.loop-index.body c.loop-index.index c.loop-index.next now.result.1 _ c.replace-stmt.result c.index-body-index.result c.replace-stmt.new.dest now.result.0 below c.replace-stmt.ensures.value now.ensures.next c.loop-index.invariant.next;
      forward = omega (arith, now.ensures.next, c.loop-index.invariant.forward);
    }

pub number-returns-clause-slots : goal.number-returns-clause-slots
number-returns-clause-slots t c =
    at_end c.loop-index.body c.args.body.now c.loop-index.index c.args.first c.loop-index.next (omega (arith, c.loop-index-test.false, c.loop-index.auto.body)) c.loop-index.invariant.slots

pub number_if-returns-clause-slots : goal.number_if-returns-clause-slots
number_if-returns-clause-slots t c =
    let items = c.deref_mut.ensures.value in
    c.choice.ensures
    ∙ if_numbered c.args.slot c.args.line c.args.gens (expr_of c.args.test) (body_of c.args.yes.items) _ (else_of c.args.no) _ c.number-next.result
    (ap body_of (cut c.args.yes.len c.number-next.new.body (drop (length c.number-next.new.body) c.args.yes.items) (c.number-next.auto.body ∙ c.deref_mut.ensures.len)) ∙ c.number-next.ensures.slots ∙ ap (λ (l : List code_stmt.Stmt). numbered (c.args.slot + 1) (body_of l)) items)
    (c.number-next.ensures.next ∙ ap (λ (l : List code_stmt.Stmt). c.args.slot + 1 + size (body_of l)) items)
    c.number_else-no.ensures.slots

pub number_arms-loop-index-preserved : goal.number_arms-loop-index-preserved
number_arms-loop-index-preserved t c =
    let below : c.loop-index.index < length c.loop-index.arms = omega (arith, c.loop-index-test.true, c.loop-index.auto.arms) in
    let now = c.number_arm-next in
    record {
      slots = arm_at_step c.loop-index.arms c.args.arms.now c.loop-index.index c.args.first c.loop-index.next now.result _ c.index-arms-index.result now.new.arm below refl now.ensures.slots now.ensures.next c.loop-index.invariant.slots;
      next = arm_next_step c.loop-index.arms c.loop-index.index c.loop-index.next now.result _ _ c.index-arms-index.result now.new.arm below refl now.ensures.next c.loop-index.invariant.next;
      forward = omega (arith, now.ensures.next, c.loop-index.invariant.forward);
    }

pub number_arms-returns-clause-slots : goal.number_arms-returns-clause-slots
number_arms-returns-clause-slots t c =
    arms_at_end c.loop-index.arms c.args.arms.now c.loop-index.index c.args.first c.loop-index.next (omega (arith, c.loop-index-test.false, c.loop-index.auto.arms)) c.loop-index.invariant.slots

pub number_case-returns-clause-slots : goal.number_case-returns-clause-slots
number_case-returns-clause-slots t c =
    let items = c.deref_mut.ensures.value in
    c.selection.ensures
    ∙ case_numbered c.args.slot c.args.line c.args.gens (expr_of c.args.value) (arms_of c.args.arms.items) _ (else_of c.args.other) _ c.number_arms-next.result
    (ap arms_of (cut c.args.arms.len c.number_arms-next.new.arms (drop (length c.number_arms-next.new.arms) c.args.arms.items) (c.number_arms-next.auto.arms ∙ c.deref_mut.ensures.len)) ∙ c.number_arms-next.ensures.slots ∙ ap (λ (l : List code_arm.Arm). numbered_arms (c.args.slot + 1) (arms_of l)) items)
    (c.number_arms-next.ensures.next ∙ ap (λ (l : List code_arm.Arm). c.args.slot + 1 + arms_size (arms_of l)) items)
    c.number_else-other.ensures.slots
