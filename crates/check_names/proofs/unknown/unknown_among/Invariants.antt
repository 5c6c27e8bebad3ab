use Rattle.std.proofs.Common.{◌≡◌, drop}
use Rattle.names.specs.Known.{has, none}
use Rattle.design_core.specs.Statements.{stmts_at}
use Rattle.check_core.specs.Names.{unknown_among}
use Rattle.check_names.specs.Scopes.{scope_in}
use Rattle.check_names.proofs.unknown.unknown_among.Given as goal

-- what is left tells what all tells
abbrev pub invariant-loop-stmt : goal.invariant-loop-stmt
invariant-loop-stmt l = unknown_among (scope_in l.scope) (has l.assigned) (has l.lets) (stmts_at (drop l.stmt-index l.stmts)) ≡ unknown_among (scope_in l.scope) (has l.assigned) none (stmts_at l.stmts)
