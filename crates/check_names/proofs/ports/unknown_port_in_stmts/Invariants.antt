use Rattle.std.proofs.Common.{◌≡◌, drop}
use Rattle.design_core.specs.Statements.{stmts_at}
use Rattle.names.specs.Known.{has}
use Rattle.check_core.specs.Faults.{first_of}
use Rattle.check_core.specs.Ports.{unknown_port_in}
use Rattle.check_names.proofs.ports.unknown_port_in_stmts.Given as goal

-- what is left tells what all tells
abbrev pub invariant-loop-stmt : goal.invariant-loop-stmt
invariant-loop-stmt l = first_of (unknown_port_in (has l.outputs)) (stmts_at (drop l.stmt-index l.stmts)) ≡ first_of (unknown_port_in (has l.outputs)) (stmts_at l.stmts)
