use Rattle.std.proofs.Common.{sym, ◌∙◌}
use Rattle.check_paths.proofs.Targets.{targets_next, targets_end}
use Rattle.check_paths.proofs.driven.put_targets.Goals as goal

pub loop-stmt-preserved : goal.loop-stmt-preserved
loop-stmt-preserved c = targets_next _ _ _ _ _ c.loop-stmt-test.true c.stmt-item.is c.in_ok-put_target.ensures ∙ c.loop-stmt.invariant

pub returns : goal.returns
returns c = sym (targets_end _ _ _ c.loop-stmt-test.false) ∙ c.loop-stmt.invariant
