-- The runs of a design over the rows of a stimulus.
use Rattle.std.specs.Prelude.{◌≡◌, ℕ, false, List}
use Rattle.bv_core.specs.Value.{Bits}
use Rattle.exec_core.specs.Whole.{Place}
use Rattle.exec_core.specs.Run.{starts, IsRun}
use Rattle.design_core.specs.declared.Ports.{Ports}
use Rattle.design_core.specs.Design.{Design}
use Rattle.design_core.specs.Ports.{ports_in, top_signals}
use Rattle.design_exec.specs.Processes.{processes_of}
use Rattle.stim_text.specs.Stimulus.{Stimulus, IsStimulus}
use Rattle.check_exec.specs.Premises.{IsSound}
use Rattle.place_core.specs.Orders.{TellsOrder}
use Rattle.world_core.specs.Source.{rows_named}

-- the inputs of the top, in order
abbrev pub HasInputs : Design → Ports → Type 0
HasInputs d ports = ports.inputs ≡ ports_in false (top_signals d)

-- a run of the design over these rows of its inputs
abbrev pub RunsOver : Design → List (List Bits) → List (Place → Bits) → Type 0
RunsOver d rows run = IsRun (processes_of d) (starts (processes_of d)) (rows_named (ports_in false (top_signals d)) rows) run

-- an accepted design with an order has a run over every stimulus for its inputs
abbrev pub DesignsRun : Type 0
DesignsRun =
    (d : Design) (pairs : List (ℕ × ℕ)) (stim : Stimulus) → IsSound d → TellsOrder d pairs → IsStimulus stim → HasInputs d stim.ports
    → (run : List (Place → Bits)) × RunsOver d stim.rows run
