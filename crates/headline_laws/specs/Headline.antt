-- A replay of what is printed of a design and its run asks for what a debugger over the run puts out.
use Rattle.std.specs.Prelude.{◌≡◌, ℕ, ◌≤◌, ◌^◌, List, length, Some, None}
use Rattle.bv_core.specs.Value.{Bits}
use Rattle.exec_core.specs.Whole.{Place}
use Rattle.design_core.specs.Design.{AreInRange, Design}
use Rattle.net_core.specs.Nets.{NetParts}
use Rattle.symtab.specs.declared.parts.TableParts.{TableParts}
use Rattle.stim_text.specs.Stimulus.{Stimulus, IsStimulus}
use Rattle.check_core.specs.Verdict.{verdict}
use Rattle.place_core.specs.Orders.{Pair, TellsOrder}
use Rattle.project_read.specs.Projects.{IsProject}
use Rattle.design_judge.specs.Judgement.{Top, Describes, ArePortsOf}
use Rattle.world_core.specs.declared.mode.Mode.{Mode}
use Rattle.world_core.specs.Source.{source_world}
use Rattle.trim_core.specs.KeptNet.{kept_net}
use Rattle.trim_core.specs.KeptTable.{kept_table}
use Rattle.trim_core.specs.Trimmed.{IsTrimmed}
use Rattle.trim_laws.specs.Runs.{RunsOver}
use Rattle.symbol_net.specs.Line.{symbols_line}
use Rattle.vcd_write.specs.Run.{waves_text}
use Rattle.listen.specs.Pairs.{Heard}
use Rattle.machine_core.specs.Reading.{Reader, IsReader}
use Rattle.batch_run.specs.Texts.{batch_text, most_requests}
use Rattle.replay_run.specs.Asked.{Names, Contents, AsksReplay}

-- files that are accepted as this design, of the source of this name and what it imports, from a top whose parameters are given numbers from -2^62 to 2^62; an order of its driven
-- signals; a stimulus for the ports of its top; and a run of the design over the rows of the stimulus
pub record IsDebugged (top : Top) (told : Contents) (src : List ℕ) (d : Design) (pairs : List Pair) (stim : Stimulus) (run : List (Place → Bits)) : Type 0 where
  pub describes : Describes top (IsProject told src) d
  pub in_range : AreInRange top.given
  pub clean : verdict d ≡ None
  pub order : TellsOrder d pairs
  pub ports : ArePortsOf d stim.ports
  pub stimulus : IsStimulus stim
  pub runs : RunsOver d stim.rows run

-- the files of a replay hold what is printed of the design's symbol table and, for the scope of its top, of the waves of its run, of at
-- most 64 MiB each, and these requests, of at most 16 MiB; n is how many signals are driven
pub record HoldPrinted (files : Contents) (names : Names) (d : Design) (n : ℕ) (mode : Mode) (stim : Stimulus) (requests : List ℕ) : Type 0 where
  pub symbols : files names.symbols ≡ Some (symbols_line (kept_table d n mode))
  pub short_symbols : length (symbols_line (kept_table d n mode)) ≤ 2 ^ 26
  pub dump : files names.dump ≡ Some (waves_text (kept_net d n mode) stim)
  pub short_dump : length (waves_text (kept_net d n mode) stim) ≤ 2 ^ 26
  pub scope : names.scope ≡ stim.ports.module
  pub asked : files names.requests ≡ Some requests
  pub few : length requests ≤ most_requests

-- the files ask a replay for status 0 and this text, and for nothing else
pub record AsksFor (heard : List Heard) (files : Contents) (names : Names) (text : List ℕ) : Type 0 where
  pub asks : AsksReplay heard files names 0 text
  pub only : (status : ℕ) (other : List ℕ) → AsksReplay heard files names status other → (status ≡ 0) × (other ≡ text)

-- so it is with the text of a session over the world of the source, of all files that are accepted as this design and every run of it
abbrev pub AreReplayed : Design → List Pair → Mode → Stimulus → Type 0
AreReplayed d pairs mode stim =
    (top : Top) (told : Contents) (src : List ℕ) (run : List (Place → Bits)) → IsDebugged top told src d pairs stim run →
    (heard : List Heard) (files : Contents) (names : Names) (requests : List ℕ) → HoldPrinted files names d (length pairs) mode stim requests →
    (reader : Reader) → IsReader reader → AsksFor heard files names (batch_text reader (source_world d (length pairs) mode run) heard requests)

-- where the design has a net and a table of its kept trees
abbrev pub ReplaysAreDebugged : Type 0
ReplaysAreDebugged =
    (d : Design) (pairs : List Pair) (mode : Mode) (net : NetParts) (parts : TableParts) (stim : Stimulus) → IsTrimmed d (length pairs) mode net parts → AreReplayed d pairs mode stim
