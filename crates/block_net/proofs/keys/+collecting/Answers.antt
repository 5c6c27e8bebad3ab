use Rattle.std.proofs.Common.{◌∙◌, ap, arith}
use Rattle.design_exec.specs.Processes.{target}
use Rattle.exec_core.specs.Block.{Now}
use Rattle.block_net.specs.Source.{arms_in, body_in, else_in}
use Rattle.block_net.proofs.BodySteps.{arms_size_next, size_next, collect_next, collect_end, collect_one, collect_both, collect_arm, collect_arms_end, collect_case, if_as, case_as, at_assign, at_let, at_if, at_case}
use Rattle.block_net.proofs.keys.+collecting.Goals as goal

pub collect-loop-stmt-preserved : goal.collect-loop-stmt-preserved
collect-loop-stmt-preserved t c = record {
  assigned = collect_next c.args.clocked _ _ _ _ _ c.loop-stmt-test.true c.stmt-item.is c.in_ok-collect_stmt.ensures ∙ c.loop-stmt.invariant.assigned;
  left = let next = size_next _ _ _ c.loop-stmt-test.true c.stmt-item.is in let now = c.loop-stmt.invariant.left in omega arith;
}

pub collect-returns : goal.collect-returns
collect-returns t c = collect_end c.args.clocked _ _ _ _ c.loop-stmt-test.false c.loop-stmt.invariant.assigned

pub collect_stmt-returns-in_ok-push-in-Assign : goal.collect_stmt-returns-in_ok-push-in-Assign
collect_stmt-returns-in_ok-push-in-Assign t c =
    collect_one _ _ _ _ _ _ _ _ (c.in_ok-key-in-Assign.ensures ∙ ap (target c.args.clocked) c.bytes.ensures) (at_assign c.args.clocked _ _ _ _ _ _ _ c.in-Assign.is) c.in_ok-push-in-Assign.ensures.items

pub collect_stmt-returns-in_ok-push-in-Let : goal.collect_stmt-returns-in_ok-push-in-Let
collect_stmt-returns-in_ok-push-in-Let t c =
    collect_one _ _ _ _ _ _ _ _ (c.in_ok-key-in-Let.ensures ∙ ap (λ x. Now x) c.bytes-in-Let.ensures) (at_let c.args.clocked _ _ _ _ _ _ c.in-Let.is) c.in_ok-push-in-Let.ensures.items

pub collect_stmt-returns-in_ok-collect_else-in-If : goal.collect_stmt-returns-in_ok-collect_else-in-If
collect_stmt-returns-in_ok-collect_else-in-If t c =
    collect_both _ _ _ (body_in c.args.clocked c.deref.result.now) (else_in c.args.clocked c.in-If.no) _ _ _ (if_as _ _ c.args.clocked _ _ _ _ (at_if c.args.clocked _ _ _ _ _ _ _ c.in-If.is) c.deref.ensures.value)
    c.in_ok-collect-in-If.ensures c.in_ok-collect_else-in-If.ensures

pub collect_stmt-returns-in_ok-collect_else-in-Case : goal.collect_stmt-returns-in_ok-collect_else-in-Case
collect_stmt-returns-in_ok-collect_else-in-Case t c =
    collect_case _ _ _ (arms_in c.args.clocked c.deref-in-Case.result.now) (else_in c.args.clocked c.in-Case.other) _ _ _ (case_as _ _ c.args.clocked _ _ _ _ (at_case c.args.clocked _ _ _ _ _ _ _ c.in-Case.is) c.deref-in-Case.ensures.value)
    c.in_ok-collect_arms-in-Case.ensures c.in_ok-collect_else-in-Case.ensures

pub collect_arms-loop-arm-preserved : goal.collect_arms-loop-arm-preserved
collect_arms-loop-arm-preserved t c = record {
  assigned = collect_arm c.args.clocked _ _ _ _ _ _ c.loop-arm-test.true c.arm-item.is c.deref.ensures.value c.in_ok-collect.ensures ∙ c.loop-arm.invariant.assigned;
  left = let next = arms_size_next _ _ _ c.loop-arm-test.true c.arm-item.is in let now = c.loop-arm.invariant.left in omega arith;
}

pub collect_arms-returns : goal.collect_arms-returns
collect_arms-returns t c = collect_arms_end c.args.clocked _ _ _ _ c.loop-arm-test.false c.loop-arm.invariant.assigned
