use Rattle.std.proofs.Common.{◌∙◌}
use Rattle.check_paths.proofs.Drives.{noted_next}
use Rattle.check_paths.proofs.twice.note_stmts.Goals as goal

pub loop-stmt-preserved : goal.loop-stmt-preserved
loop-stmt-preserved c = noted_next _ _ _ _ _ c.loop-stmt-test.true c.stmt-item.is c.in_ok-note_stmt.ensures ∙ c.loop-stmt.invariant
