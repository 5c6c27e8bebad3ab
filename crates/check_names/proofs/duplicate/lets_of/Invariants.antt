use Rattle.std.proofs.Common.{◌≡◌, ◌++◌, drop}
use Rattle.design_core.specs.Statements.{stmts_at}
use Rattle.check_core.specs.Names.{lets_in}
use Rattle.check_names.specs.Things.{things_at}
use Rattle.check_names.proofs.duplicate.lets_of.Given as goal

-- those that were put and those of what is left are all
abbrev pub invariant-loop-stmt : goal.invariant-loop-stmt
invariant-loop-stmt l = things_at l.found.items ++ lets_in (stmts_at (drop l.stmt-index l.stmts)) ≡ lets_in (stmts_at l.stmts)
