use Rattle.std.proofs.Common.{◌≡◌, drop}
use Rattle.names.specs.Known.{has}
use Rattle.design_core.specs.Statements.{stmts_at}
use Rattle.check_paths.specs.Walked.{own_among}
use Rattle.check_paths.proofs.early.put_all_own.Given as goal

-- those that were put in and those of what is left are all
abbrev pub invariant-loop-stmt : goal.invariant-loop-stmt
invariant-loop-stmt l = own_among l.clocked (has l.names) (stmts_at (drop l.stmt-index l.stmts)) ≡ own_among l.clocked (has l.initial.names) (stmts_at l.stmts)
