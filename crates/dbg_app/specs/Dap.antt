-- A conversation with an editor: the words that ask for one, and how it ends.
use Rattle.std.specs.Prelude.{◌≡◌, ◌≢◌, ◌⊎◌, ℕ, Bool, ◌==◌, ◌||◌, List, [], ◌∷◌, map, Option, Some, None, codes, bytes_eq, if◌then◌else◌, IfSome}
use Rattle.io_edge.specs.Faults.{Rose}
use Rattle.io_edge.specs.Taken.{Appends}
use Rattle.project_read.specs.Asking.{AreAllNumbered, AsksSome}
use Rattle.run_status.specs.Statuses.{status_of}
use Rattle.run_status.specs.declared.Ending.{Ending}
use Rattle.run_status.specs.declared.Ending.TheVariants as ends
use Rattle.show_net.specs.Over.{Over}
use Rattle.dap_link.specs.Conversation.{last_part}
use Rattle.dap_run.specs.declared.ends.TalkEnd.{TalkEnd}
use Rattle.dap_run.specs.declared.ends.TalkEnd.TheVariants as talk
use Rattle.dap_net.specs.Conversations.{ConversesOver}
use Rattle.dbg_app.specs.Command.{Command, Trail, over_rows, rest_names}
use Rattle.dbg_app.specs.Names.{AsksBehind}
use Rattle.dbg_app.specs.Asked.{command_as}
use Rattle.dbg_app.specs.Answers.{Answer, Contents, Asks, IfAsked}
use Rattle.dbg_app.specs.Outcome as run
use Rattle.dbg_app.specs.Serving.{HoldsOver}
use Rattle.dbg_app.specs.declared.dap.Talk as code
use Rattle.dbg_app.specs.declared.shown.Shown as code_shown
use Rattle.dbg_app.specs.declared.shown.Shown.TheVariants as shown

-- ---- the words

-- the words `dap MODE SRC STIM TOP [NAME=N]..`: their files are judged as those of a trail
abbrev pub dap_of : List (List ℕ) → Option Command
dap_of [] = None
dap_of (word ∷ words) = if bytes_eq word (codes "dap") then over_rows Trail (word ∷ words) else None

-- without where the words lie in memory
abbrev pub talk_as : code.Talk → Command
talk_as talk = command_as talk.command

-- ---- the statuses

-- of a conversation that ended so
abbrev pub way_of_talk : TalkEnd → Ending
way_of_talk talk.Bye = ends.Written
way_of_talk talk.AtEnd = ends.Written
way_of_talk (talk.Fault k) = ends.BadInput
way_of_talk talk.NotRead = ends.NotRead
way_of_talk talk.NotTaken = ends.NotTaken
way_of_talk talk.NoMemory = ends.OutOfMemory

abbrev pub talk_status : TalkEnd → ℕ
talk_status end = status_of (way_of_talk end)

-- The classes of ends. Refused: the line of a refusal was written. Whole: all that was answered was written, up to the end of the input, a
-- `disconnect`, or a fault of what is framed. Between them a file or the input was not read. A front: of a line or of answers a front was written.
abbrev pub is_refused : ℕ → Bool
is_refused status = status == status_of ends.NoCommand || status == status_of ends.NoDesign || status == status_of ends.NoStimulus

abbrev pub is_whole : ℕ → Bool
is_whole status = status == status_of ends.Written || status == status_of ends.BadInput

abbrev pub is_front : ℕ → Bool
is_front status = status == status_of ends.NotTaken || status == status_of ends.OutOfMemory

abbrev pub is_dap_status : ℕ → Bool
is_dap_status status = is_refused status || is_whole status || status == status_of ends.NotRead || is_front status

-- ---- what was judged

-- what is accepted has all of the files' names, by their numbers
abbrev pub NamesShown : Option Contents → List ℕ → code_shown.Shown → List (List ℕ) → Type 0
NamesShown told src (shown.Refused j) names = Unit {0}
NamesShown told src (shown.Accepted service) names = IfSome told (λ files. AreAllNumbered files src names)

-- ---- how it ends

-- a conversation over what the files hold, with their names by number as an editor tells them, ended so
pub record TalksOver (files : Contents) (command : Command) (end : TalkEnd) (left0 left old new : Option (List ℕ)) : Type 0 where
  pub over : Over
  pub holds : HoldsOver files command over
  pub names : List (List ℕ)
  pub numbered : AreAllNumbered files command.source names
  pub text : ConversesOver over (map last_part names) end left0 left old new

-- with this status
pub record Talked (files : Contents) (command : Command) (status : ℕ) (left0 left old new : Option (List ℕ)) : Type 0 where
  pub end : TalkEnd
  pub is : status ≡ talk_status end
  pub over : TalksOver files command end left0 left old new

-- nothing was taken of the input
pub record IsUnheard (left0 left : Option (List ℕ)) (faults0 faults : ℕ) : Type 0 where
  pub left_is : left ≡ left0
  pub faults_are : faults ≡ faults0

-- and nothing, or a front of the line of a refusal, was written; or a front of what was answered was
pub record RefusesTalk (files : Contents) (command : Command) (left0 left : Option (List ℕ)) (faults0 faults : ℕ) (old new : Option (List ℕ)) : Type 0 where
  pub unheard : IsUnheard left0 left faults0 faults
  pub taken : run.TakesSome [] files command old new

abbrev pub TalksFront : Contents → Command → ℕ → Option (List ℕ) → Option (List ℕ) → ℕ → ℕ → Option (List ℕ) → Option (List ℕ) → Type 0
TalksFront files command status left0 left faults0 faults old new =
    RefusesTalk files command left0 left faults0 faults old new ⊎ Talked files command status left0 left old new

-- a file was not read, before anything was taken or written
pub record FilesFail (read_rose stops : Type 0) (left0 left : Option (List ℕ)) (faults0 faults : ℕ) (old new : Option (List ℕ)) : Type 0 where
  pub rose : read_rose
  pub stopped : stops
  pub unheard : IsUnheard left0 left faults0 faults
  pub nothing : new ≡ old

-- or the input was not, and this was conversed before
abbrev pub NotAllRead : Type 0 → Type 0 → Type 0 → Option (List ℕ) → Option (List ℕ) → ℕ → ℕ → Option (List ℕ) → Option (List ℕ) → Type 0
NotAllRead read_rose stops conversed left0 left faults0 faults old new =
    FilesFail read_rose stops left0 left faults0 faults old new ⊎ (Rose faults0 faults × conversed)

-- where the files ask for an answer, and no count has risen, the status is its status, with the whole line of a refusal; or what was accepted
-- was conversed about up to a fault of what is framed; or memory ran out
abbrev pub CompletesTalk : Contents → Command → ℕ → Option (List ℕ) → Option (List ℕ) → Type 0 → Type 0 → Type 0 → Type 0
CompletesTalk files command status old new read_rose heard_rose write_rose =
    (answer : Answer) → Asks [] files command answer → (read_rose → ⊥) → (heard_rose → ⊥) → (write_rose → ⊥)
    → ((status ≡ answer.status) × (status ≢ 0 → run.TakesAnswer files command answer old new)) ⊎ (((answer.status ≡ 0) × (status ≡ 10)) ⊎ (status ≡ 9))

-- the files that were asked for: those of the design up to the one that is refused, where one is, and else all of them and the stimulus; none
-- where the words are no conversation
pub record AsksTalk (told : Option Contents) (command : Command) (status : ℕ) (old new : Option (List (List ℕ))) : Type 0 where
  pub source : status ≡ 3 → (count : ℕ) × AsksSome told command.source old new count
  pub all : (status ≡ 0) ⊎ ((status ≡ 4) ⊎ (status ≡ 10)) → AsksBehind told command.source (rest_names command) old new

abbrev pub AsksByStatus : Option Contents → Option Command → ℕ → Option (List (List ℕ)) → Option (List (List ℕ)) → Type 0
AsksByStatus told None status old new = Appends old new []
AsksByStatus told (Some command) status old new = AsksTalk told command status old new
