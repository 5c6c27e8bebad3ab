use Rattle.std.proofs.Common.{sym, ◌∙◌}
use Rattle.check_names.proofs.ChildNames.{child_next, child_end}
use Rattle.check_names.proofs.scope.put_children.Goals as goal

pub loop-child-preserved : goal.loop-child-preserved
loop-child-preserved c = child_next _ _ _ _ _ _ c.loop-child-test.true c.child-item.is c.bytes.ensures c.in_ok-insert.ensures.known ∙ c.loop-child.invariant

pub returns : goal.returns
returns c = sym (child_end _ _ _ c.loop-child-test.false) ∙ c.loop-child.invariant
