use Rattle.std.proofs.Common.{◌≡◌, drop}
use Rattle.names.specs.Known.{has, either}
use Rattle.design_core.specs.Statements.{stmts_at}
use Rattle.check_core.specs.Drivers.{assignments, drives}
use Rattle.check_paths.proofs.driven.put_targets.Given as goal

-- those so far, and those of what is left
abbrev pub invariant-loop-stmt : goal.invariant-loop-stmt
invariant-loop-stmt l = either (has l.assigned) (drives (assignments (stmts_at (drop l.stmt-index l.stmts)))) ≡ either (has l.initial.assigned) (drives (assignments (stmts_at l.stmts)))
