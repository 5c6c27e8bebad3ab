-- What the samples of a compiled design are: each node has in each cycle the value of its tree.
use Rattle.std.specs.Prelude.{ℕ, List, [], ◌∷◌, length, if◌then◌else◌}
use Rattle.bv_core.specs.Value.{Bits}
use Rattle.bv_core.specs.declared.reference.Sample.TheVariants.{Known}
use Rattle.tree_core.specs.Tree.{Origin, value_of}
use Rattle.tree_core.specs.Width.{origin_width}
use Rattle.tree_core.specs.Fold.{same_origin}
use Rattle.exec_core.specs.Whole.{Place}
use Rattle.design_core.specs.Design.{Design}
use Rattle.design_exec.specs.Processes.{Given, processes_of}
use Rattle.net_core.specs.Nodes.{tree_at}
use Rattle.net_core.specs.Nets.{NetParts}
use Rattle.symtab.specs.declared.parts.TableParts.{TableParts}
use Rattle.trace_core.specs.Samples.{Samples, SameSamples}
use Rattle.stim_text.specs.Stimulus.{Stimulus}
use Rattle.sim_hist.specs.Run.{run_samples}
use Rattle.world_core.specs.declared.mode.Mode.{Mode}
use Rattle.world_core.specs.Kept.{kept_trees}
use Rattle.world_core.specs.Source.{settled_in}
use Rattle.trim_laws.specs.Worlds.{IsRunOf}

-- what an input or a register has where its place has these values, and 0 of its width where none of these is it
abbrev pub origin_value : List Given → (Place → Bits) → Origin → Bits
origin_value [] E o = record { width = origin_width o; value = 0 }
origin_value (given ∷ givens) E o = if same_origin given.1 o then E given.0 else origin_value givens E o

-- what the inputs and registers of a design have in a cycle of a run: the row of the cycle, and the registers of the run
abbrev pub state_of : Design → List (Place → Bits) → ℕ → Origin → Bits
state_of d run t = origin_value (processes_of d).givens (settled_in run t)

-- the samples of a run: the kept trees by their numbers, each with its value in each cycle. n is how many signals are driven
abbrev pub tree_samples : Design → ℕ → Mode → List (Place → Bits) → Samples
tree_samples d n mode run = record {
  cycles = length run;
  nodes = length (kept_trees d n mode);
  sample = λ t j. Known (value_of (state_of d run t) (tree_at (kept_trees d n mode) j));
}

-- simulating a compiled design over the rows of a stimulus samples its run
abbrev pub SimulatedAreRuns : Type 0
SimulatedAreRuns =
    (d : Design) (pairs : List (ℕ × ℕ)) (mode : Mode) (net : NetParts) (parts : TableParts) (stim : Stimulus) (run : List (Place → Bits)) →
    IsRunOf d pairs mode net parts stim run → SameSamples (run_samples net stim) (tree_samples d (length pairs) mode run)
