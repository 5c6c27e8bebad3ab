use Rattle.std.proofs.Common.{ap}
use Rattle.design_core.specs.Statements.{stmts_at}
use Rattle.check_core.specs.Widths.{Widths, mismatch_among}
use Rattle.check_widths.proofs.MapSteps.{lets_none}
use Rattle.check_widths.proofs.mismatch.mismatch_among.Goals as goal

pub loop-stmt-init : goal.loop-stmt-init
loop-stmt-init c = ap (λ (k : Widths). mismatch_among k (stmts_at c.args.stmts.now)) (lets_none _ _ c.new-lets.ensures)
