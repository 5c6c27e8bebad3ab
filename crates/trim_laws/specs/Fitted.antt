-- The simulated trace of a compiled design fits its symbol table, and everything in it is known.
use Rattle.std.specs.Prelude.{◌≡◌, ℕ, ◌<◌, Some, slice_get}
use Rattle.bv_core.specs.declared.reference.Sample.{Sample}
use Rattle.bv_core.specs.declared.reference.Sample.TheVariants.{Known, Unknown}
use Rattle.design_core.specs.Design.{Design}
use Rattle.net_core.specs.Nets.{NetParts}
use Rattle.symtab.specs.declared.parts.TableParts.{TableParts}
use Rattle.trace_core.specs.Samples.{Samples}
use Rattle.stim_text.specs.Stimulus.{Stimulus, IsStimulus}
use Rattle.sim_hist.specs.Run.{run_samples}
use Rattle.world_core.specs.declared.mode.Mode.{Mode}
use Rattle.trace_world.specs.Fitting.{widths_of, FitsTable}
use Rattle.trim_core.specs.Trimmed.{IsTrimmed}

-- a sample that is known, with a value of this width
abbrev pub IsKnown : ℕ → Sample → Type 0
IsKnown width (Known bits) = bits.width ≡ width
IsKnown width Unknown = ⊥

-- each node of a table is known in each cycle, with its width
abbrev pub AllKnown : TableParts → Samples → Type 0
AllKnown parts s = (t j width : ℕ) → t < s.cycles → slice_get (widths_of parts) j ≡ Some width → IsKnown width (s.sample t j)

-- what a debugger asks for before it walks the table of a compiled design with the simulated trace of its net
abbrev pub SimulatedFit : Type 0
SimulatedFit =
    (d : Design) (n : ℕ) (mode : Mode) (net : NetParts) (parts : TableParts) (stim : Stimulus) → IsTrimmed d n mode net parts → IsStimulus stim →
    FitsTable parts (run_samples net stim)

abbrev pub SimulatedAreKnown : Type 0
SimulatedAreKnown =
    (d : Design) (n : ℕ) (mode : Mode) (net : NetParts) (parts : TableParts) (stim : Stimulus) → IsTrimmed d n mode net parts → IsStimulus stim →
    AllKnown parts (run_samples net stim)
