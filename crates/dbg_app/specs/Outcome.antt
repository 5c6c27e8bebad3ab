-- How a run ends.
use Rattle.std.specs.Prelude.{◌≡◌, ◌≢◌, ℕ, List, [], Bool, false, Option, Some, None, is_some, ◌||◌, ◌&&◌, ◌==◌, ◌⊎◌}
use Rattle.io_edge.specs.Taken.{Appends, AppendsFront}
use Rattle.stim_text.specs.declared.StimFault.{StimFault}
use Rattle.stim_text.specs.declared.StimFault.TheVariants as stim_faults
use Rattle.design_core.specs.Design.{Design}
use Rattle.design_judge.specs.declared.DesignFault.{DesignFault}
use Rattle.design_judge.specs.Refusals.{is_no_memory, design_line, stimulus_line}
use Rattle.listen.specs.Pairs.{Heard}
use Rattle.project_read.specs.Asking.{AsksSome}
use Rattle.run_status.specs.Statuses.{status_of}
use Rattle.run_status.specs.declared.Ending.TheVariants.{Written, NoCommand, NoDesign, NoStimulus, NoRequests, NotRead, NotTaken, OutOfMemory}
use Rattle.dbg_app.specs.Command.{Command, file_names, rest_names}
use Rattle.dbg_app.specs.Names.{AsksBehind}
use Rattle.dbg_app.specs.Answers.{Answer, Contents, Asks, RefusesLoop}
use Rattle.dbg_app.specs.declared.halt.Halt.{Halt}
use Rattle.dbg_app.specs.declared.halt.Halt.TheVariants.{ReadFault, WriteFault, NoMemory}

-- ---- the statuses

-- the statuses that a run of a command over a design ends with; a replay may end with 5 too (`is_status_of` of `Call`)
abbrev pub is_status : ℕ → Bool
is_status status =
    status == status_of Written || status == status_of NoCommand || status == status_of NoDesign || status == status_of NoStimulus
    || status == status_of NoRequests || status == status_of NotRead || status == status_of NotTaken || status == status_of OutOfMemory

-- the statuses of a run whose words are no command
abbrev pub is_usage_status : ℕ → Bool
is_usage_status status = status == status_of NoCommand || status == status_of NotTaken || status == status_of OutOfMemory

-- and of one of a command: a stimulus is refused only where the words name one, and so are requests
abbrev pub may_end : Bool → Bool → ℕ → Bool
may_end has_stimulus has_requests status =
    status == status_of Written || status == status_of NoDesign || (status == status_of NoStimulus && has_stimulus) || (status == status_of NoRequests && has_requests)
    || status == status_of NotRead || status == status_of NotTaken || status == status_of OutOfMemory

abbrev pub is_status_for : Option Command → ℕ → Bool
is_status_for None status = is_usage_status status
is_status_for (Some command) status = may_end (is_some command.stimulus) (is_some command.requests) status

abbrev pub halt_status : Halt → ℕ
halt_status ReadFault = status_of NotRead
halt_status WriteFault = status_of NotTaken
halt_status NoMemory = status_of OutOfMemory

-- ---- the files that were asked for

-- files of the design, up to the one that is refused, where it is refused; all of them and the stimulus where this is refused; and else
-- all, in the order of the words; none where the words are no command
pub record AsksCommand (told : Option Contents) (command : Command) (status : ℕ) (old new : Option (List (List ℕ))) : Type 0 where
  pub source : status ≡ 3 → (count : ℕ) × AsksSome told command.source old new count
  pub stimulus : status ≡ 4 → AsksBehind told command.source (file_names command.stimulus) old new
  pub all : (status ≡ 0) ⊎ (status ≡ 6) → AsksBehind told command.source (rest_names command) old new

abbrev pub AsksByStatus : Option Contents → Option Command → ℕ → Option (List (List ℕ)) → Option (List (List ℕ)) → Type 0
AsksByStatus told None status old new = Appends old new []
AsksByStatus told (Some command) status old new = AsksCommand told command status old new

-- ---- what was taken

-- the line of a refused source was taken
pub record TakesDesignLine (old new : Option (List ℕ)) : Type 0 where
  pub fault : DesignFault
  pub refuses : is_no_memory fault ≡ false
  pub taken : Appends old new (design_line fault)

-- the line of a refused stimulus was taken
pub record TakesStimulusLine (old new : Option (List ℕ)) : Type 0 where
  pub fault : StimFault
  pub refuses : fault ≢ stim_faults.NoMemory
  pub taken : Appends old new (stimulus_line fault)

-- the run ended with the answer that is asked for, and the sink took its whole text
pub record EndsAsAsked (heard : List Heard) (files : Contents) (command : Command) (status : ℕ) (old new : Option (List ℕ)) : Type 0 where
  pub text : List ℕ
  pub asked : Asks heard files command (record { status = status; text = text })
  pub taken : Appends old new text

-- the sink took a front of the text that is asked for
pub record TakesFront (heard : List Heard) (files : Contents) (command : Command) (old new : Option (List ℕ)) : Type 0 where
  pub status : ℕ
  pub text : List ℕ
  pub asked : Asks heard files command (record { status = status; text = text })
  pub taken : AppendsFront old new text

-- nothing was taken, or a front of the text that is asked for
abbrev pub TakesSome : List Heard → Contents → Command → Option (List ℕ) → Option (List ℕ) → Type 0
TakesSome heard files command old new = (new ≡ old) ⊎ TakesFront heard files command old new

-- the answer tells a loop of a design, and the sink took the whole text of an answer that tells a loop of the same design
pub record TakesOtherLoop (files : Contents) (command : Command) (answer : Answer) (old new : Option (List ℕ)) : Type 0 where
  pub design : Design
  pub asked : RefusesLoop files command design answer
  pub other : Answer
  pub also_asked : RefusesLoop files command design other
  pub taken : Appends old new other.text

-- the sink took the whole text of an answer; where it tells a loop, that of this loop or of another one
abbrev pub TakesAnswer : Contents → Command → Answer → Option (List ℕ) → Option (List ℕ) → Type 0
TakesAnswer files command answer old new = Appends old new answer.text ⊎ TakesOtherLoop files command answer old new

-- where the files ask for an answer, and neither count has risen, the run ended with its status and its whole text was taken, or
-- memory ran out
abbrev pub Completes : List Heard → Contents → Command → ℕ → Option (List ℕ) → Option (List ℕ) → Type 0 → Type 0 → Type 0
Completes heard files command status old new read_rose write_rose =
    (answer : Answer) → Asks heard files command answer → (read_rose → ⊥) → (write_rose → ⊥) → ((status ≡ answer.status) × TakesAnswer files command answer old new) ⊎ (status ≡ 9)
