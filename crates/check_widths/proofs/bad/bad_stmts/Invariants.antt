use Rattle.std.proofs.Common.{◌≡◌, drop}
use Rattle.design_core.specs.Statements.{stmts_at}
use Rattle.check_core.specs.Faults.{first_of}
use Rattle.check_core.specs.Widths.{bad_stmt}
use Rattle.check_widths.proofs.bad.bad_stmts.Given as goal

-- what is left tells what all tells
abbrev pub invariant-loop-stmt : goal.invariant-loop-stmt
invariant-loop-stmt l = first_of bad_stmt (stmts_at (drop l.stmt-index l.stmts)) ≡ first_of bad_stmt (stmts_at l.stmts)
