use Rattle.std.proofs.Common.{◌≡◌, drop}
use Rattle.names.specs.Maps.{value_of}
use Rattle.design_core.specs.Statements.{stmts_at}
use Rattle.check_core.specs.Drivers.{all_driven, assignments}
use Rattle.check_paths.proofs.twice.note_stmts.Given as goal

-- those so far, and those of what is left
abbrev pub invariant-loop-stmt : goal.invariant-loop-stmt
invariant-loop-stmt l = all_driven (value_of l.lines) (assignments (stmts_at (drop l.stmt-index l.stmts))) ≡ all_driven (value_of l.initial.lines) (assignments (stmts_at l.stmts))
