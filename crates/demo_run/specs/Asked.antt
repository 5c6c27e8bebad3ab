-- What a demo asks for: the status and the text that its words and the contents of its file give.
use Rattle.std.specs.Prelude.{◌≡◌, ◌≢◌, ℕ, ◌<◌, ◌≤◌, ◌==◌, Bool, false, ◌||◌, List, [], ◌∷◌, length, Option, Some, None, Result, Ok, Err, ◌⊎◌}
use Rattle.bv_core.specs.Value.{Bits}
use Rattle.exec_core.specs.Block.{Name}
use Rattle.exec_core.specs.Whole.{Place}
use Rattle.io_edge.specs.Taken.{Appends, AppendsFront}
use Rattle.listen.specs.Pairs.{Heard}
use Rattle.design_core.specs.declared.Ports.{Ports}
use Rattle.design_core.specs.Design.{Design}
use Rattle.stim_text.specs.Rows.{rows_of}
use Rattle.stim_text.specs.declared.StimFault.{StimFault}
use Rattle.stim_text.specs.declared.StimFault.TheVariants as stim_faults
use Rattle.design_judge.specs.declared.DesignFault.{DesignFault}
use Rattle.design_judge.specs.declared.DesignFault.TheVariants.{CombLoop}
use Rattle.design_judge.specs.Refusals.{is_no_memory, design_line, stimulus_line}
use Rattle.design_judge.specs.Judgement.{AreOfText, IsAccepted, IsRefused, IsLooped, ArePortsOf}
use Rattle.world_core.specs.declared.mode.Mode.{Mode}
use Rattle.world_core.specs.World.{World}
use Rattle.world_core.specs.Seen.{seen}
use Rattle.world_core.specs.Source.{source_world}
use Rattle.trim_laws.specs.Runs.{RunsOver}
use Rattle.machine_core.specs.Reading.{Reader, IsReader}
use Rattle.machine_core.specs.Machine.{opening}
use Rattle.batch_run.specs.Texts.{requests_of, most_requests, requests_fault}
use Rattle.run_status.specs.Statuses.{status_of}
use Rattle.run_status.specs.declared.Ending.TheVariants as ends
use Rattle.demo_run.specs.Chain.{chain_source, chain_stimulus, chain_top, row_count}
use Rattle.demo_run.specs.Stops.{batch_stops}
use Rattle.demo_run.specs.Line.{demo_line}

-- a mode, how many cells the chain has, and the name of a file of requests
pub record Given : Type 0 where
  pub mode : Mode
  pub number : ℕ
  pub requests : List ℕ

-- the bytes of each file by its name
abbrev pub Contents : Type 0
Contents = List ℕ → Option (List ℕ)

-- ---- what is there

-- the source of the chain is this design
abbrev pub IsChain : Given → Design → Type 0
IsChain given d = IsAccepted (chain_top given.number) (AreOfText chain_source) d

-- its stimulus has these rows for these ports, or is refused for this
abbrev pub HasRows : Ports → Result (List (List Bits)) StimFault → Type 0
HasRows ports said = rows_of ports (chain_stimulus row_count) ≡ said

-- the requests are this text, or are too long
abbrev pub HoldsRequests : Contents → Given → Option (List ℕ) → Type 0
HoldsRequests files given (Some text) = (files given.requests ≡ Some text) × (length text ≤ most_requests)
HoldsRequests files given None = (text : List ℕ) × (files given.requests ≡ Some text) × (most_requests < length text)

-- ---- what is asked for

-- the source is refused, with the line of its refusal
pub record RefusesDesign (given : Given) (status : ℕ) (text : List ℕ) : Type 0 where
  pub fault : DesignFault
  pub refused : IsRefused (chain_top given.number) (AreOfText chain_source) fault
  pub status_is : status ≡ 3
  pub text_is : text ≡ design_line fault

-- the source is accepted, and the stimulus is refused for the ports of its design
pub record RefusesStimulus (given : Given) (status : ℕ) (text : List ℕ) : Type 0 where
  pub design : Design
  pub accepted : IsChain given design
  pub ports : Ports
  pub are : ArePortsOf design ports
  pub fault : StimFault
  pub refused : HasRows ports (Err fault)
  pub status_is : status ≡ 4
  pub text_is : text ≡ stimulus_line fault

-- both are accepted, and the requests are too long
pub record RefusesRequests (files : Contents) (given : Given) (status : ℕ) (text : List ℕ) : Type 0 where
  pub design : Design
  pub accepted : IsChain given design
  pub ports : Ports
  pub are : ArePortsOf design ports
  pub rows : List (List Bits)
  pub stimulus : HasRows ports (Ok rows)
  pub refused : HoldsRequests files given None
  pub status_is : status ≡ 6
  pub text_is : text ≡ requests_fault

-- all are accepted: there is a run of the design over the rows
pub record Held : Type 0 where
  pub design : Design
  pub driven : ℕ
  pub ports : Ports
  pub rows : List (List Bits)
  pub run : List (Place → Bits)
  pub requests : List ℕ
  pub reader : Reader

pub record Holds (files : Contents) (given : Given) (held : Held) : Type 0 where
  pub accepted : IsChain given held.design
  pub driven : held.driven ≡ length accepted.1.pairs
  pub ports : ArePortsOf held.design held.ports
  pub rows : HasRows held.ports (Ok held.rows)
  pub runs : RunsOver held.design held.rows held.run
  pub requests : HoldsRequests files given (Some held.requests)
  pub reads : IsReader held.reader

-- the line of the counts over what a session over the run's world reaches for the requests, with listeners that mean this
abbrev pub line_over : List Heard → ℕ → World → Reader → List ℕ → List ℕ
line_over heard number w read requests = demo_line number w (batch_stops read (seen w) (requests_of requests) (opening heard))

abbrev pub line_of : List Heard → Given → Held → List ℕ
line_of heard given held = line_over heard given.number (source_world held.design held.driven given.mode held.run) held.reader held.requests

pub record ShowsLine (heard : List Heard) (files : Contents) (given : Given) (status : ℕ) (text : List ℕ) : Type 0 where
  pub held : Held
  pub holds : Holds files given held
  pub status_is : status ≡ 0
  pub text_is : text ≡ line_of heard given held

-- the source is judged first, then the stimulus, then the requests
pub data AsksDemo (heard : List Heard) (files : Contents) (given : Given) (status : ℕ) (text : List ℕ) : Type 0 where
  NoDesign : RefusesDesign given status text → AsksDemo heard files given status text
  NoStimulus : RefusesStimulus given status text → AsksDemo heard files given status text
  NoRequests : RefusesRequests files given status text → AsksDemo heard files given status text
  Accepted : ShowsLine heard files given status text → AsksDemo heard files given status text

-- ---- how a demo ends

-- what the status of one may be
abbrev pub is_status : ℕ → Bool
is_status status =
    status == status_of ends.Written || status == status_of ends.NoDesign || status == status_of ends.NoStimulus || status == status_of ends.NoRequests
    || status == status_of ends.NotRead || status == status_of ends.NotTaken || status == status_of ends.OutOfMemory

-- the line of a refused source was taken, or that of a refused stimulus
pub record TakesDesignLine (old new : Option (List ℕ)) : Type 0 where
  pub fault : DesignFault
  pub refuses : is_no_memory fault ≡ false
  pub taken : Appends old new (design_line fault)

pub record TakesStimulusLine (old new : Option (List ℕ)) : Type 0 where
  pub fault : StimFault
  pub refuses : fault ≢ stim_faults.NoMemory
  pub taken : Appends old new (stimulus_line fault)

-- the file of requests was asked for, or none where the design or the stimulus is refused
pub record AsksByStatus (given : Given) (status : ℕ) (asked_old asked_new : Option (List (List ℕ))) : Type 0 where
  pub none : (status ≡ 3) ⊎ (status ≡ 4) → Appends asked_old asked_new []
  pub all : (status ≡ 0) ⊎ (status ≡ 6) → Appends asked_old asked_new (given.requests ∷ [])

-- with the text that is asked for, of which the whole was taken
pub record EndsAsAsked (heard : List Heard) (files : Contents) (given : Given) (status : ℕ) (old new : Option (List ℕ)) : Type 0 where
  pub text : List ℕ
  pub asked : AsksDemo heard files given status text
  pub taken : Appends old new text

-- a front of the text that is asked for
pub record TakesFront (heard : List Heard) (files : Contents) (given : Given) (old new : Option (List ℕ)) : Type 0 where
  pub status : ℕ
  pub text : List ℕ
  pub asked : AsksDemo heard files given status text
  pub taken : AppendsFront old new text

-- nothing was taken, or a front of the text that is asked for
abbrev pub TakesSome : List Heard → Contents → Given → Option (List ℕ) → Option (List ℕ) → Type 0
TakesSome heard files given old new = (new ≡ old) ⊎ TakesFront heard files given old new

-- the source is refused for a loop of this design, with its line
pub record RefusesLoop (given : Given) (d : Design) (text : List ℕ) : Type 0 where
  pub paths : List Name
  pub loop : IsLooped (chain_top given.number) (AreOfText chain_source) d paths
  pub text_is : text ≡ design_line (CombLoop paths)

-- the text tells a loop of a design, and the whole text that tells a loop of the same design was taken
pub record TakesOtherLoop (given : Given) (text : List ℕ) (old new : Option (List ℕ)) : Type 0 where
  pub design : Design
  pub asked : RefusesLoop given design text
  pub other : List ℕ
  pub also_asked : RefusesLoop given design other
  pub taken : Appends old new other

-- the whole text was taken; where it tells a loop, that of this loop or of another one
abbrev pub TakesText : Given → List ℕ → Option (List ℕ) → Option (List ℕ) → Type 0
TakesText given text old new = Appends old new text ⊎ TakesOtherLoop given text old new

-- where the file asks for a text, and neither count has risen, the demo ended with its status and took its whole text, or memory ran out
abbrev pub Completes : List Heard → Contents → Given → ℕ → Option (List ℕ) → Option (List ℕ) → Type 0 → Type 0 → Type 0
Completes heard files given status old new read_rose write_rose =
    (asked : ℕ) (text : List ℕ) → AsksDemo heard files given asked text → (read_rose → ⊥) → (write_rose → ⊥) → ((status ≡ asked) × TakesText given text old new) ⊎ (status ≡ 9)
