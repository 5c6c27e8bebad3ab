-- What a compiled design shows of a run is known.
use Rattle.std.specs.Prelude.{ℕ, List}
use Rattle.bv_core.specs.Value.{Bits}
use Rattle.exec_core.specs.Whole.{Place}
use Rattle.design_core.specs.Design.{Design}
use Rattle.net_core.specs.Nets.{NetParts}
use Rattle.symtab.specs.declared.parts.TableParts.{TableParts}
use Rattle.stim_text.specs.Stimulus.{Stimulus}
use Rattle.sim_hist.specs.Run.{run_samples}
use Rattle.world_core.specs.declared.mode.Mode.{Mode}
use Rattle.trace_world.specs.TraceWorld.{trace_world}
use Rattle.world_laws.specs.Values.{NothingIsUnknown}
use Rattle.trim_laws.specs.Worlds.{IsRunOf}

-- at each thread of each statement, in the world of its table and the samples of its net
abbrev pub TraceIsKnown : Type 0
TraceIsKnown =
    (d : Design) (pairs : List (ℕ × ℕ)) (mode : Mode) (net : NetParts) (parts : TableParts) (stim : Stimulus) (run : List (Place → Bits)) →
    IsRunOf d pairs mode net parts stim run → NothingIsUnknown (trace_world parts (run_samples net stim))
