-- What a command asks for: the status and the text that the contents of its files give.
use Rattle.std.specs.Prelude.{◌≡◌, ℕ, ◌≤◌, ◌<◌, List, [], length, Option, Some, None, Result, Ok, Err, codes}
use Rattle.bv_core.specs.Value.{Bits}
use Rattle.exec_core.specs.Block.{Name}
use Rattle.exec_core.specs.Whole.{Place}
use Rattle.design_core.specs.declared.Ports.{Ports}
use Rattle.design_core.specs.Design.{Design}
use Rattle.stim_text.specs.Rows.{rows_of}
use Rattle.stim_text.specs.declared.StimFault.{StimFault}
use Rattle.world_core.specs.declared.mode.Mode.{Mode}
use Rattle.world_core.specs.World.{trail_text}
use Rattle.world_core.specs.Source.{source_world}
use Rattle.trim_laws.specs.Runs.{RunsOver}
use Rattle.trim_core.specs.KeptNet.{kept_net}
use Rattle.trim_core.specs.KeptTable.{kept_table}
use Rattle.symbol_net.specs.Line.{symbols_line}
use Rattle.verilog_out.specs.Printed.{printed}
use Rattle.vcd_write.specs.Run.{waves_text}
use Rattle.listen.specs.Pairs.{Heard}
use Rattle.machine_core.specs.Reading.{Reader, IsReader}
use Rattle.batch_run.specs.Texts.{batch_text, most_requests, requests_fault}
pub use Rattle.project_read.specs.Projects.{Contents}
use Rattle.project_read.specs.Projects.{IsProject}
use Rattle.design_judge.specs.declared.DesignFault.{DesignFault}
use Rattle.design_judge.specs.declared.DesignFault.TheVariants.{CombLoop}
use Rattle.design_judge.specs.Refusals.{design_line, stimulus_line}
use Rattle.design_judge.specs.Judgement.{IsAccepted, IsRefused, IsLooped, ArePortsOf}
use Rattle.dbg_app.specs.Command.{Task, Trail, Verilog, Symbols, Waves, Session, Command}

-- a status, and the text that goes with it
pub record Answer : Type 0 where
  pub status : ℕ
  pub text : List ℕ

-- the line of words that are no command
abbrev pub usage_fault : List ℕ
usage_fault = codes "usage fault\n"

-- ---- what the files hold

-- the source of the command, with the files that it imports, is accepted as this design
pub record HoldsDesign (files : Contents) (command : Command) (d : Design) : Type 0 where
  pub accepted : IsAccepted command.top (IsProject files command.source) d

-- what the stimulus of the command is for these ports: its rows, or why it is refused; where none is named there are no rows
abbrev pub HoldsRows : Contents → Ports → Option (List ℕ) → Result (List (List Bits)) StimFault → Type 0
HoldsRows files ports None rows = rows ≡ Ok []
HoldsRows files ports (Some name) rows = (text : List ℕ) × (files name ≡ Some text) × (rows_of ports text ≡ rows)

-- what the requests of a file are: all its bytes, or nothing where they are too long
abbrev pub AreRequests : Option (List ℕ) → Option (List ℕ) → Type 0
AreRequests file (Some text) = (file ≡ Some text) × (length text ≤ most_requests)
AreRequests file None = (text : List ℕ) × (file ≡ Some text) × (most_requests < length text)

-- what the requests of the command are; where none are named there is no text
abbrev pub HoldsRequests : Contents → Option (List ℕ) → Option (List ℕ) → Type 0
HoldsRequests files None requests = requests ≡ Some []
HoldsRequests files (Some name) requests = AreRequests (files name) requests

-- what the files of a command hold, where each of them is accepted: the design, how many of its signals are driven, the ports of its
-- top, the rows, a run over them, and the text of the requests; the mode; and how conditions are read
pub record Held : Type 0 where
  pub design : Design
  pub driven : ℕ
  pub ports : Ports
  pub rows : List (List Bits)
  pub run : List (Place → Bits)
  pub requests : List ℕ
  pub mode : Mode
  pub reader : Reader

pub record Holds (files : Contents) (command : Command) (held : Held) : Type 0 where
  pub design : HoldsDesign files command held.design
  pub driven : held.driven ≡ length design.accepted.1.pairs
  pub ports : ArePortsOf held.design held.ports
  pub rows : HoldsRows files held.ports command.stimulus (Ok held.rows)
  pub runs : RunsOver held.design held.rows held.run
  pub requests : HoldsRequests files command.requests (Some held.requests)
  pub mode : held.mode ≡ command.mode
  pub reads : IsReader held.reader

-- the text of each command: the trail of the run; the net of the trees that the mode keeps, printed with the ports; the table of these trees as
-- a symbol file, and a line feed; the waves of that net over the rows, as a value change dump file; what a session over the run's world
-- puts out for the requests, with listeners that mean this
abbrev pub text_of : List Heard → Task → Held → List ℕ
text_of heard Trail held = trail_text (source_world held.design held.driven held.mode held.run)
text_of heard Verilog held = printed (kept_net held.design held.driven held.mode) held.ports
text_of heard Symbols held = symbols_line (kept_table held.design held.driven held.mode)
text_of heard Waves held = waves_text (kept_net held.design held.driven held.mode) (record { ports = held.ports; rows = held.rows })
text_of heard Session held = batch_text held.reader (source_world held.design held.driven held.mode held.run) heard held.requests

-- ---- what a command asks for

-- the source, or a file that it imports, is refused, with the line of its refusal
pub record RefusesDesign (files : Contents) (command : Command) (answer : Answer) : Type 0 where
  pub fault : DesignFault
  pub refused : IsRefused command.top (IsProject files command.source) fault
  pub is : answer ≡ record { status = 3; text = design_line fault }

-- the source is accepted, and the stimulus is refused for the ports of its design
pub record RefusesStimulus (files : Contents) (command : Command) (answer : Answer) : Type 0 where
  pub design : Design
  pub holds : HoldsDesign files command design
  pub ports : Ports
  pub are : ArePortsOf design ports
  pub fault : StimFault
  pub refused : HoldsRows files ports command.stimulus (Err fault)
  pub is : answer ≡ record { status = 4; text = stimulus_line fault }

-- the source and the stimulus are accepted, and the requests are too long
pub record RefusesRequests (files : Contents) (command : Command) (answer : Answer) : Type 0 where
  pub design : Design
  pub holds : HoldsDesign files command design
  pub ports : Ports
  pub are : ArePortsOf design ports
  pub rows : List (List Bits)
  pub stimulus : HoldsRows files ports command.stimulus (Ok rows)
  pub refused : HoldsRequests files command.requests None
  pub is : answer ≡ record { status = 6; text = requests_fault }

-- all files are accepted: the text that is asked of what they hold, with listeners that mean this
pub record ShowsText (heard : List Heard) (files : Contents) (command : Command) (answer : Answer) : Type 0 where
  pub held : Held
  pub holds : Holds files command held
  pub is : answer ≡ record { status = 0; text = text_of heard command.task held }

-- what a command asks for, where these are the files and the listeners mean this: the source and its imports are judged first, then
-- the stimulus, then the requests
pub data Asks (heard : List Heard) (files : Contents) (command : Command) (answer : Answer) : Type 0 where
  NoDesign : RefusesDesign files command answer → Asks heard files command answer
  NoStimulus : RefusesStimulus files command answer → Asks heard files command answer
  NoRequests : RefusesRequests files command answer → Asks heard files command answer
  Accepted : ShowsText heard files command answer → Asks heard files command answer

-- the source is refused for a loop of this design, with its line
pub record RefusesLoop (files : Contents) (command : Command) (d : Design) (answer : Answer) : Type 0 where
  pub paths : List Name
  pub loop : IsLooped command.top (IsProject files command.source) d paths
  pub is : answer ≡ record { status = 3; text = design_line (CombLoop paths) }

-- a fact of the files and the command, where the files are told and the words are a command
abbrev pub IfAsked : Option Contents → Option Command → (Contents → Command → Type 0) → Type 0
IfAsked (Some files) (Some command) P = P files command
IfAsked (Some files) None P = Unit {0}
IfAsked None command P = Unit {0}
