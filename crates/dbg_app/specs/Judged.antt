-- What was judged is what is asked for.
use Rattle.std.specs.Prelude.{◌≡◌, ◌≢◌, ℕ, false, List, [], ◌++◌, Option, Some, None, Ok, length, IsTrue, is_some}
use Rattle.io_edge.specs.Taken.{Appends, AppendsFront}
use Rattle.bv_core.specs.Value.{Bits}
use Rattle.exec_core.specs.Whole.{Place}
use Rattle.stim_text.specs.Stimulus.{Stimulus}
use Rattle.stim_text.specs.declared.StimFault.TheVariants.{NoMemory}
use Rattle.world_core.specs.declared.mode.Mode.{Mode}
use Rattle.trim_laws.specs.Runs.{RunsOver}
use Rattle.listen.specs.Pairs.{Heard}
use Rattle.machine_core.specs.Reading.{Reader, IsReader}
use Rattle.design_judge.specs.Refusals.{is_no_memory, design_line, stimulus_line}
use Rattle.design_judge.specs.declared.Accepted.{Accepted}
use Rattle.design_judge.specs.Accepting.{Accepting, IsKept, accepting_of}
use Rattle.project_read.specs.Asking.{AsksSome}
use Rattle.dbg_app.specs.Command.{Task, Session, Command, file_names, rest_names}
use Rattle.dbg_app.specs.Names.{AsksBehind}
use Rattle.dbg_app.specs.Asked.{alone_as, over_as}
use Rattle.batch_run.specs.Texts.{requests_fault}
use Rattle.dbg_app.specs.Answers.{Contents, Held, HoldsDesign, HoldsRows, HoldsRequests, RefusesDesign, RefusesStimulus, RefusesRequests, usage_fault, text_of}
use Rattle.dbg_app.specs.Compiled.{StandsOnNet}
use Rattle.run_status.specs.Statuses.{status_of}
use Rattle.run_status.specs.declared.Ending.{Ending}
use Rattle.run_status.specs.declared.Ending.TheVariants as ends
use Rattle.dbg_app.specs.declared.command.OfDesign.{OfDesign}
use Rattle.dbg_app.specs.declared.command.OverRows.{OverRows}
use Rattle.dbg_app.specs.declared.judge.Judged.{Judged}
use Rattle.dbg_app.specs.declared.judge.Judged.TheVariants as judged

-- ---- what is to be written, where all was accepted

-- what is asked, in which mode, of which design, over which rows, by which requests
pub record Work : Type 0 where
  pub task : Task
  pub mode : Mode
  pub accepting : Accepting
  pub rows : List (List Bits)
  pub requests : List ℕ

abbrev pub alone : OfDesign → Mode → Accepted → Work
alone task mode a = record { task = alone_as task; mode = mode; accepting = accepting_of a; rows = []; requests = [] }

abbrev pub over : OverRows → Mode → Accepted → Stimulus → Work
over task mode a stim = record { task = over_as task; mode = mode; accepting = accepting_of a; rows = stim.rows; requests = [] }

abbrev pub session : Mode → Accepted → Stimulus → List ℕ → Work
session mode a stim requests = record { task = Session; mode = mode; accepting = accepting_of a; rows = stim.rows; requests = requests }

-- what it holds, with a run and a way to read conditions
abbrev pub held_by : Work → List (Place → Bits) → Reader → Held
held_by work run read = record {
  design = work.accepting.design;
  driven = length work.accepting.order;
  ports = work.accepting.ports;
  rows = work.rows;
  run = run;
  requests = work.requests;
  mode = work.mode;
  reader = read;
}

-- the design is kept so, and has a run over the rows
pub record HasRun (work : Work) : Type 0 where
  pub kept : IsKept work.accepting
  pub run : List (Place → Bits)
  pub runs : RunsOver work.accepting.design work.rows run

-- its text, with some run and some way to read conditions
abbrev pub IsWorkText : List Heard → Work → List ℕ → Type 0
IsWorkText heard work text =
    (run : List (Place → Bits)) × RunsOver work.accepting.design work.rows run × (read : Reader) × IsReader read × (text ≡ text_of heard work.task (held_by work run read))

-- the files of the command hold it
pub record HoldsWork (files : Contents) (command : Command) (work : Work) : Type 0 where
  pub task : work.task ≡ command.task
  pub mode : work.mode ≡ command.mode
  pub kept : IsKept work.accepting
  pub design : HoldsDesign files command work.accepting.design
  pub rows : HoldsRows files work.accepting.ports command.stimulus (Ok work.rows)
  pub requests : HoldsRequests files command.requests (Some work.requests)

-- ---- what was judged

-- a command was judged as its files ask
abbrev pub Judges : Contents → Command → Judged → Type 0
Judges files command judged.NoCommand = ⊥
Judges files command (judged.NoDesign fault) = RefusesDesign files command (record { status = 3; text = design_line fault })
Judges files command (judged.NoStimulus fault) = RefusesStimulus files command (record { status = 4; text = stimulus_line fault })
Judges files command judged.NoRequests = RefusesRequests files command (record { status = 6; text = requests_fault })
Judges files command (judged.Alone task mode a) = HoldsWork files command (alone task mode a)
Judges files command (judged.Over task mode a stim) = HoldsWork files command (over task mode a stim)
Judges files command (judged.Session mode a stim requests) = HoldsWork files command (session mode a stim requests.items)

-- the names that were asked for before it was judged so: behind the source, those of the stimulus and the requests
abbrev pub asked_behind : Option (List ℕ) → Option (List ℕ) → Judged → List (List ℕ)
asked_behind stimulus requests judged.NoCommand = []
asked_behind stimulus requests (judged.NoDesign fault) = []
asked_behind stimulus requests (judged.NoStimulus fault) = file_names stimulus
asked_behind stimulus requests judged.NoRequests = file_names stimulus ++ file_names requests
asked_behind stimulus requests (judged.Alone task mode a) = file_names stimulus ++ file_names requests
asked_behind stimulus requests (judged.Over task mode a stim) = file_names stimulus ++ file_names requests
asked_behind stimulus requests (judged.Session mode a stim text) = file_names stimulus ++ file_names requests

-- and all of them, from the files of the design on
abbrev pub AsksOwn : Option Contents → Command → Option (List (List ℕ)) → Option (List (List ℕ)) → Judged → Type 0
AsksOwn told command old new judged.NoCommand = Unit {0}
AsksOwn told command old new (judged.NoDesign fault) = (count : ℕ) × AsksSome told command.source old new count
AsksOwn told command old new (judged.NoStimulus fault) = AsksBehind told command.source (file_names command.stimulus) old new
AsksOwn told command old new judged.NoRequests = AsksBehind told command.source (rest_names command) old new
AsksOwn told command old new (judged.Alone task mode a) = AsksBehind told command.source (rest_names command) old new
AsksOwn told command old new (judged.Over task mode a stim) = AsksBehind told command.source (rest_names command) old new
AsksOwn told command old new (judged.Session mode a stim text) = AsksBehind told command.source (rest_names command) old new

abbrev pub AsksFor : Option Contents → Option Command → Option (List (List ℕ)) → Option (List (List ℕ)) → Judged → Type 0
AsksFor told None old new j = Appends old new []
AsksFor told (Some command) old new j = AsksOwn told command old new j

-- a stimulus is refused only where one is named, and so are requests
abbrev pub RefusesNamed : Option (List ℕ) → Option (List ℕ) → Judged → Type 0
RefusesNamed stimulus requests judged.NoCommand = Unit {0}
RefusesNamed stimulus requests (judged.NoDesign fault) = Unit {0}
RefusesNamed stimulus requests (judged.NoStimulus fault) = IsTrue (is_some stimulus)
RefusesNamed stimulus requests judged.NoRequests = IsTrue (is_some requests)
RefusesNamed stimulus requests (judged.Alone task mode a) = Unit {0}
RefusesNamed stimulus requests (judged.Over task mode a stim) = Unit {0}
RefusesNamed stimulus requests (judged.Session mode a stim text) = Unit {0}

abbrev pub RefusesOwn : Option Command → Judged → Type 0
RefusesOwn None j = Unit {0}
RefusesOwn (Some command) j = RefusesNamed command.stimulus command.requests j

-- the net and the table that stand behind the text of what was accepted
abbrev pub WorkStands : Work → Type 0
WorkStands work = StandsOnNet work.task work.accepting.design (length work.accepting.order) work.mode

abbrev pub IsCompiled : Judged → Type 0
IsCompiled judged.NoCommand = Unit {0}
IsCompiled (judged.NoDesign fault) = Unit {0}
IsCompiled (judged.NoStimulus fault) = Unit {0}
IsCompiled judged.NoRequests = Unit {0}
IsCompiled (judged.Alone task mode a) = WorkStands (alone task mode a)
IsCompiled (judged.Over task mode a stim) = WorkStands (over task mode a stim)
IsCompiled (judged.Session mode a stim requests) = WorkStands (session mode a stim requests.items)

-- what was accepted has a run, and what was refused has a line
abbrev pub HasText : Judged → Type 0
HasText judged.NoCommand = Unit {0}
HasText (judged.NoDesign fault) = is_no_memory fault ≡ false
HasText (judged.NoStimulus fault) = fault ≢ NoMemory
HasText judged.NoRequests = Unit {0}
HasText (judged.Alone task mode a) = HasRun (alone task mode a)
HasText (judged.Over task mode a stim) = (stim.ports ≡ a.ports) × HasRun (over task mode a stim)
HasText (judged.Session mode a stim requests) = (stim.ports ≡ a.ports) × HasRun (session mode a stim requests.items)

-- how a run with it ends, where all of the text is written
abbrev pub way_of : Judged → Ending
way_of judged.NoCommand = ends.NoCommand
way_of (judged.NoDesign fault) = ends.NoDesign
way_of (judged.NoStimulus fault) = ends.NoStimulus
way_of judged.NoRequests = ends.NoRequests
way_of (judged.Alone task mode a) = ends.Written
way_of (judged.Over task mode a stim) = ends.Written
way_of (judged.Session mode a stim requests) = ends.Written

abbrev pub judged_status : Judged → ℕ
judged_status judged = status_of (way_of judged)

-- the text that goes with what was judged, with listeners that mean this
abbrev pub IsTextOf : List Heard → Judged → List ℕ → Type 0
IsTextOf heard judged.NoCommand text = text ≡ usage_fault
IsTextOf heard (judged.NoDesign fault) text = text ≡ design_line fault
IsTextOf heard (judged.NoStimulus fault) text = text ≡ stimulus_line fault
IsTextOf heard judged.NoRequests text = text ≡ requests_fault
IsTextOf heard (judged.Alone task mode a) text = IsWorkText heard (alone task mode a) text
IsTextOf heard (judged.Over task mode a stim) text = IsWorkText heard (over task mode a stim) text
IsTextOf heard (judged.Session mode a stim requests) text = IsWorkText heard (session mode a stim requests.items) text

-- the text that goes with what was judged was taken, or a front of it
pub record TakesText (heard : List Heard) (judged : Judged) (old new : Option (List ℕ)) : Type 0 where
  pub taken : (text : List ℕ) → IsTextOf heard judged text → Appends old new text

pub record TakesTextFront (heard : List Heard) (judged : Judged) (old new : Option (List ℕ)) : Type 0 where
  pub taken : (text : List ℕ) → IsTextOf heard judged text → AppendsFront old new text

-- so it is of what was accepted, whatever the listeners mean
pub record TakesWork (work : Work) (old new : Option (List ℕ)) : Type 0 where
  pub taken : (heard : List Heard) (text : List ℕ) → IsWorkText heard work text → Appends old new text

pub record TakesWorkFront (work : Work) (old new : Option (List ℕ)) : Type 0 where
  pub taken : (heard : List Heard) (text : List ℕ) → IsWorkText heard work text → AppendsFront old new text
