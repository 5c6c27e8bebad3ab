-- What is written of a net's run is replayed as the run.
use Rattle.std.specs.Prelude.{◌≡◌, ℕ, ◌<◌, ◌^◌, length, slice_get, Some, None, Ok}
use Rattle.net_core.specs.Nets.{NetParts, IsNet}
use Rattle.verilog_out.specs.Printed.{FitsPorts}
use Rattle.symtab.specs.declared.parts.NodeName.{NodeName}
use Rattle.symtab.specs.declared.parts.TableParts.{TableParts}
use Rattle.symtab.specs.Shape.{IsTable}
use Rattle.stim_text.specs.Stimulus.{Stimulus, IsStimulus}
use Rattle.sim_hist.specs.Run.{run_samples}
use Rattle.trace_world.specs.Fitting.{TellSame}
use Rattle.vcd_read.specs.Meaning.{meaning}
use Rattle.vcd_text.specs.Told.{IsShort}
use Rattle.vcd_write.specs.Run.{node_variable, waves_text}
use Rattle.vcd_write.specs.ReadBack.{told_of}
use Rattle.vcd_trace.specs.Over.{samples_over}
use Rattle.vcd_trace.specs.Refused.{refusal}
use Rattle.vcd_trace.specs.Alike.{SameNamed}

-- the nodes of a table are those of a net, by number: they have the names and the sizes of the variables that are written of them
pub record AreNodesOf (parts : TableParts) (net : NetParts) : Type 0 where
  pub count : length parts.nodes ≡ length net.nodes
  pub names : (n : ℕ) (node : NodeName) → slice_get parts.nodes n ≡ Some node → node.name ≡ (node_variable net.nodes n).name
  pub widths : (n : ℕ) (node : NodeName) → slice_get parts.nodes n ≡ Some node → node.width ≡ (node_variable net.nodes n).size

-- the text is read, and bound to the table in the scope of the module; by its samples the table tells what it tells by the run
pub record Replays (net : NetParts) (s : Stimulus) (parts : TableParts) : Type 0 where
  pub means : meaning (waves_text net s) ≡ Ok (told_of net s)
  pub accepted : refusal (told_of net s) parts s.ports.module ≡ None
  pub alike : SameNamed parts (samples_over (told_of net s) parts s.ports.module) (run_samples net s)
  pub same : TellSame parts (samples_over (told_of net s) parts s.ports.module) (run_samples net s)

-- so it is for a net whose nodes have numbers of 64 bits, a table of its nodes, and a text of at most 64 MiB
abbrev pub WavesReplay : Type 0
WavesReplay =
    (net : NetParts) (s : Stimulus) (parts : TableParts) → length net.nodes < 2 ^ 64 → IsNet net → IsStimulus s → FitsPorts net s.ports → IsShort (waves_text net s) → IsTable parts → AreNodesOf parts net
    → Replays net s parts
