use Rattle.std.proofs.Common.{◌∙◌, sym}
use Rattle.check_paths.proofs.OwnNames.{own_next, own_end}
use Rattle.check_paths.proofs.early.put_all_own.Goals as goal

pub loop-stmt-preserved : goal.loop-stmt-preserved
loop-stmt-preserved c = own_next _ _ _ _ _ _ c.loop-stmt-test.true c.stmt-item.is c.in_ok-put_own.ensures ∙ c.loop-stmt.invariant

pub returns : goal.returns
returns c = sym (own_end _ _ _ _ c.loop-stmt-test.false) ∙ c.loop-stmt.invariant
