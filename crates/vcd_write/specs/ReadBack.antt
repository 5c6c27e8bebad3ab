-- What is written of a net's run tells the run when it is read.
use Rattle.std.specs.Prelude.{◌≡◌, ℕ, ◌<◌, ◌^◌, List, [], length, map, get_or, Ok}
use Rattle.list_core.specs.Lists.{from}
use Rattle.net_core.specs.Nets.{NetParts, IsNet}
use Rattle.verilog_out.specs.Printed.{FitsPorts}
use Rattle.trace_core.specs.Samples.{Samples}
use Rattle.stim_text.specs.Stimulus.{Stimulus, IsStimulus}
use Rattle.sim_hist.specs.Run.{run_samples}
use Rattle.vcd_read.specs.Meaning.{Meaning, meaning}
use Rattle.vcd_samples.specs.Samples.{samples_told}
use Rattle.vcd_text.specs.Told.{IsShort, told}
use Rattle.vcd_text.specs.Waves.{dump_of}
use Rattle.vcd_write.specs.Run.{node_variable, waves_of, waves_text}

-- the names of the nodes, by number
abbrev pub node_names : NetParts → List (List ℕ)
node_names net = map (λ i. (node_variable net.nodes i).name) (from 0 (length net.nodes))

-- the same samples of as many nodes in as many cycles
pub record AreSame (a b : Samples) : Type 0 where
  pub cycles : a.cycles ≡ b.cycles
  pub nodes : a.nodes ≡ b.nodes
  pub each : (t n : ℕ) → t < b.cycles → n < b.nodes → a.sample t n ≡ b.sample t n

-- what the file tells
abbrev pub told_of : NetParts → Stimulus → Meaning
told_of net s = told (dump_of (waves_of net s))

-- the samples of the outputs' nodes
abbrev pub output_samples : NetParts → Stimulus → Samples
output_samples net s = record { cycles = length s.rows; nodes = length net.outputs; sample = λ t k. (run_samples net s).sample t (get_or net.outputs k ([], 0)).1 }

-- the text means its variables and its changes, and by these the samples of the nodes, found by their names in the scope of the
-- module, are those of the run; those of an output's name are its node's
pub record ReadsBack (net : NetParts) (s : Stimulus) : Type 0 where
  pub means : meaning (waves_text net s) ≡ Ok (told_of net s)
  pub nodes : AreSame (samples_told (told_of net s) s.ports.module (node_names net)) (run_samples net s)
  pub outputs : AreSame (samples_told (told_of net s) s.ports.module (map (λ (output : List ℕ × ℕ). output.0) net.outputs)) (output_samples net s)

-- so it is for a net whose nodes have numbers of 64 bits, and a text of at most 64 MiB
abbrev pub WavesReadBack : Type 0
WavesReadBack = (net : NetParts) (s : Stimulus) → length net.nodes < 2 ^ 64 → IsNet net → IsStimulus s → FitsPorts net s.ports → IsShort (waves_text net s) → ReadsBack net s
