-- Each cycle of an accepted design settles in exactly one way, whatever its registers hold and its inputs have.
use Rattle.std.specs.Prelude.{List}
use Rattle.bv_core.specs.Value.{Bits}
use Rattle.exec_core.specs.Block.{Name}
use Rattle.exec_core.specs.Design.{driver_of}
use Rattle.exec_core.specs.Whole.{Place, IsOrder}
use Rattle.exec_core.specs.States.{RegistersFit, RowFits, SettlesOnce}
use Rattle.design_core.specs.Design.{Design}
use Rattle.design_exec.specs.Processes.{processes_of}
use Rattle.check_exec.specs.Premises.{IsSound}

-- where the driven signals have an order, for registers that have values of their widths, also such as no run leads to, and a row that gives
-- each input of the top a value of its width: one environment has settled, and each that has settled gives each signal the same value
abbrev pub CyclesOfAcceptedSettle : Type 0
CyclesOfAcceptedSettle =
    (d : Design) → IsSound d → (order : List Place) → IsOrder (processes_of d).is_signal (driver_of (processes_of d)) order
    → (registers : Place → Bits) → RegistersFit (processes_of d) registers → (row : Name → Bits) → RowFits (processes_of d) row
    → SettlesOnce (processes_of d) registers row
