-- The waves of a compiled design are told by its kept trees and its run.
use Rattle.std.specs.Prelude.{◌≡◌, ℕ, ◌<◌, List, length}
use Rattle.bv_core.specs.Value.{Bits}
use Rattle.tree_core.specs.Tree.{value_of}
use Rattle.exec_core.specs.Whole.{Place}
use Rattle.design_core.specs.Design.{Design}
use Rattle.net_core.specs.Nodes.{tree_at}
use Rattle.net_core.specs.Nets.{NetParts}
use Rattle.symtab.specs.declared.parts.TableParts.{TableParts}
use Rattle.stim_text.specs.Stimulus.{Stimulus}
use Rattle.check_exec.specs.Premises.{IsSound}
use Rattle.world_core.specs.declared.mode.Mode.{Mode}
use Rattle.world_core.specs.Kept.{kept_trees}
use Rattle.trim_core.specs.Trimmed.{IsKeptNet}
use Rattle.trim_core.specs.KeptNet.{kept_net}
use Rattle.trim_laws.specs.Worlds.{IsRunOf}
use Rattle.trim_laws.specs.Simulated.{state_of}
use Rattle.vcd_write.specs.Run.{value_in, waves_text}

-- n is how many signals are driven

-- the file of a compiled net's run is that of the net of the kept trees
abbrev pub CompiledWavesAreKept : Type 0
CompiledWavesAreKept =
    (d : Design) (n : ℕ) (mode : Mode) (net : NetParts) (stim : Stimulus) → IsSound d → IsKeptNet d n mode net → waves_text net stim ≡ waves_text (kept_net d n mode) stim

-- and in each cycle of it each node has the value of its tree under the row and the registers of the run
abbrev pub WavesTellRuns : Type 0
WavesTellRuns =
    (d : Design) (pairs : List (ℕ × ℕ)) (mode : Mode) (net : NetParts) (parts : TableParts) (stim : Stimulus) (run : List (Place → Bits)) → IsRunOf d pairs mode net parts stim run →
    (t j : ℕ) → t < length run → j < length (kept_trees d (length pairs) mode) →
    value_in (kept_net d (length pairs) mode) stim t j ≡ value_of (state_of d run t) (tree_at (kept_trees d (length pairs) mode) j)
