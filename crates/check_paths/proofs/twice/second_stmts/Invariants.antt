use Rattle.std.proofs.Common.{◌≡◌, drop}
use Rattle.names.specs.Maps.{value_of}
use Rattle.check_core.specs.Faults.{first_of}
use Rattle.design_core.specs.Statements.{stmts_at}
use Rattle.check_core.specs.Drivers.{assignments, second_drive}
use Rattle.check_paths.proofs.twice.second_stmts.Given as goal

-- what is left tells what all tells
abbrev pub invariant-loop-stmt : goal.invariant-loop-stmt
invariant-loop-stmt l = first_of (second_drive (value_of l.lines)) (assignments (stmts_at (drop l.stmt-index l.stmts))) ≡ first_of (second_drive (value_of l.lines)) (assignments (stmts_at l.stmts))
