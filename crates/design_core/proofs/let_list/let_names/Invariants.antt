use Rattle.std.proofs.Common.{◌≡◌, take}
use Rattle.design_core.specs.Statements.{stmts_at}
use Rattle.design_core.specs.Heads.{names_at, let_names as the_names}
use Rattle.design_core.proofs.let_list.let_names.Given as goal

abbrev pub invariant-loop-stmt : goal.invariant-loop-stmt
invariant-loop-stmt l = names_at l.names.items ≡ the_names (stmts_at (take l.stmt-index l.stmts))
