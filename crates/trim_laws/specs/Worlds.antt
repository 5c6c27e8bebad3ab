-- The world that a compiled design tells by its table and the samples of its net is that of its execution.
use Rattle.std.specs.Prelude.{◌≡◌, ℕ, List, length}
use Rattle.bv_core.specs.Value.{Bits}
use Rattle.exec_core.specs.Whole.{Place}
use Rattle.design_core.specs.Design.{Design}
use Rattle.net_core.specs.Nets.{NetParts}
use Rattle.symtab.specs.declared.parts.TableParts.{TableParts}
use Rattle.stim_text.specs.Stimulus.{Stimulus, IsStimulus}
use Rattle.sim_hist.specs.Run.{run_samples}
use Rattle.check_exec.specs.Premises.{IsSound}
use Rattle.place_core.specs.Orders.{TellsOrder}
use Rattle.world_core.specs.declared.mode.Mode.{Mode}
use Rattle.world_core.specs.World.{AreSame}
use Rattle.world_core.specs.Seen.{seen}
use Rattle.world_core.specs.Source.{source_world}
use Rattle.trace_world.specs.TraceWorld.{trace_world}
use Rattle.trim_core.specs.Trimmed.{IsTrimmed}
use Rattle.trim_laws.specs.Runs.{HasInputs, RunsOver}

-- an accepted design with an order, compiled; a stimulus for its inputs, and a run over its rows
pub record IsRunOf (d : Design) (pairs : List (ℕ × ℕ)) (mode : Mode) (net : NetParts) (parts : TableParts) (stim : Stimulus) (run : List (Place → Bits)) : Type 0 where
  pub sound : IsSound d
  pub order : TellsOrder d pairs
  pub trimmed : IsTrimmed d (length pairs) mode net parts
  pub stimulus : IsStimulus stim
  pub inputs : HasInputs d stim.ports
  pub run_over : RunsOver d stim.rows run

-- in each cycle the instances whose enables are 1 are those that execute the statement, each name that is shown has what it has
-- before the statement, and the others are unset or removed as they are of the source
abbrev pub WorldsAreSame : Type 0
WorldsAreSame =
    (d : Design) (pairs : List (ℕ × ℕ)) (mode : Mode) (net : NetParts) (parts : TableParts) (stim : Stimulus) (run : List (Place → Bits)) →
    IsRunOf d pairs mode net parts stim run → AreSame (trace_world parts (run_samples net stim)) (source_world d (length pairs) mode run)

-- so both are one world, as they are seen: what is computed from that alone is the same for the table and its samples as for the source
abbrev pub WorldsAreSeenAlike : Type 0
WorldsAreSeenAlike =
    (d : Design) (pairs : List (ℕ × ℕ)) (mode : Mode) (net : NetParts) (parts : TableParts) (stim : Stimulus) (run : List (Place → Bits)) →
    IsRunOf d pairs mode net parts stim run → seen (trace_world parts (run_samples net stim)) ≡ seen (source_world d (length pairs) mode run)
