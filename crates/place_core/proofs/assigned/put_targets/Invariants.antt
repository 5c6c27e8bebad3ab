use Rattle.std.proofs.Common.{◌≡◌, drop}
use Rattle.design_core.specs.Statements.{stmts_at}
use Rattle.place_core.specs.Assigned.{names_at, adds_targets}
use Rattle.place_core.proofs.assigned.put_targets.Given as goal

abbrev pub invariant-loop-stmt : goal.invariant-loop-stmt
invariant-loop-stmt l = adds_targets l.clocked (names_at l.names.items) (stmts_at (drop l.stmt-index l.stmts)) ≡ adds_targets l.clocked (names_at l.initial.names.items) (stmts_at l.stmts)
