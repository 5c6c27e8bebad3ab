use Rattle.std.proofs.Common.{◌≡◌, drop}
use Rattle.names.specs.Maps.{value_of}
use Rattle.check_core.specs.Faults.{first_of}
use Rattle.design_core.specs.Statements.{stmts_at}
use Rattle.check_core.specs.Drivers.{assignments}
use Rattle.name_widths.specs.DeclaredWidths.{width_at}
use Rattle.check_paths.specs.Frames.{all_bits}
use Rattle.check_paths.specs.Walked.{left_out}
use Rattle.check_paths.proofs.latches.left_out_among.Given as goal

-- what is left tells what all tells
abbrev pub invariant-loop-stmt : goal.invariant-loop-stmt
invariant-loop-stmt l =
    first_of (left_out (width_at (value_of l.widths)) (all_bits l.assigned) l.line) (assignments (stmts_at (drop l.stmt-index l.stmts)))
    ≡ first_of (left_out (width_at (value_of l.widths)) (all_bits l.assigned) l.line) (assignments (stmts_at l.stmts))
