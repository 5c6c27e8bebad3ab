use Rattle.design_core.proofs.InOrder.{assign_inside, let_inside, if_inside, case_inside}
use Rattle.design_core.proofs.preorder.+putting.Goals as goal

pub put_inside-returns-in-Assign : goal.put_inside-returns-in-Assign
put_inside-returns-in-Assign t c = assign_inside _ _ _ _ _ _ _ _ c.in-Assign.is

pub put_inside-returns-in-Let : goal.put_inside-returns-in-Let
put_inside-returns-in-Let t c = let_inside _ _ _ _ _ _ _ c.in-Let.is

pub put_inside-returns-in_ok-put_else-in-If : goal.put_inside-returns-in_ok-put_else-in-If
put_inside-returns-in_ok-put_else-in-If t c = if_inside _ _ _ _ _ _ _ _ _ _ _ c.in-If.is c.deref.ensures.value c.in_ok-put-in-If.ensures c.in_ok-put_else-in-If.ensures

pub put_inside-returns-in_ok-put_else-in-Case : goal.put_inside-returns-in_ok-put_else-in-Case
put_inside-returns-in_ok-put_else-in-Case t c = case_inside _ _ _ _ _ _ _ _ _ _ _ c.in-Case.is c.deref-in-Case.ensures.value c.in_ok-put_arms-in-Case.ensures c.in_ok-put_else-in-Case.ensures
