use Rattle.std.proofs.Common.{◌≡◌, drop}
use Rattle.design_core.specs.Statements.{stmts_at}
use Rattle.check_core.specs.Widths.{mismatch_among}
use Rattle.check_widths.specs.WidthMaps.{widths_at, widths_in}
use Rattle.check_widths.proofs.mismatch.mismatch_among.Given as goal

-- what is left tells what all tells
abbrev pub invariant-loop-stmt : goal.invariant-loop-stmt
invariant-loop-stmt l = mismatch_among (widths_in l.lets l.signals) (stmts_at (drop l.stmt-index l.stmts)) ≡ mismatch_among (widths_at l.signals) (stmts_at l.stmts)
