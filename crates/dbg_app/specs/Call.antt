-- What words ask: of a design, of the files of another simulator, or of the chain of the demo; and how a run ends by that.
use Rattle.std.specs.Prelude.{◌≡◌, ℕ, ◌==◌, ◌||◌, ◌&&◌, not, Bool, List, [], ◌∷◌, Option, Some, None, option_map, option_and_then, codes, bytes_eq, if◌then◌else◌, ⊤}
use Rattle.listen.specs.Pairs.{Heard}
use Rattle.replay_run.specs.Asked as replay
use Rattle.replay_run.specs.Asked.{Names}
use Rattle.world_core.specs.declared.mode.Mode.{Mode}
use Rattle.demo_run.specs.Asked as demo
use Rattle.demo_run.specs.Asked.{Given}
use Rattle.dbg_app.specs.Number.{number_to}
use Rattle.dbg_app.specs.Command.{Command, command_of, mode_of}
use Rattle.dbg_app.specs.Names as by_design
use Rattle.dbg_app.specs.Answers.{Contents}
use Rattle.dbg_app.specs.Outcome as design
use Rattle.dbg_app.specs.Compiled.{CompilesCommand}
use Rattle.io_edge.specs.Taken.{Appends, AppendsFront}
use Rattle.io_edge.specs.Unread.{StopsAt}

-- ---- the words

abbrev pub is_some_word : List ℕ → Bool
is_some_word word = not (bytes_eq word [])

-- the words `replay SYM VCD SCOPE REQ`, none of which is empty
abbrev pub replay_of : List (List ℕ) → Option Names
replay_of (word ∷ symbols ∷ dump ∷ scope ∷ requests ∷ []) =
    if bytes_eq word (codes "replay") && (is_some_word symbols && is_some_word dump) && (is_some_word scope && is_some_word requests) then
    Some (record { symbols = symbols; dump = dump; scope = scope; requests = requests }) else None
replay_of words = None

-- how many cells, from 1 to 4,000
abbrev pub cells_of : List ℕ → Option ℕ
cells_of digits = number_to 4000 digits

-- the words `demo MODE N REQ`, the last of which is not empty
abbrev pub demo_with : List ℕ → Mode → ℕ → Option Given
demo_with requests mode number = if is_some_word requests then Some (record { mode = mode; number = number; requests = requests }) else None

abbrev pub demo_by : List ℕ → List ℕ → Mode → Option Given
demo_by cells requests mode = option_and_then (demo_with requests mode) (cells_of cells)

abbrev pub demo_of : List (List ℕ) → Option Given
demo_of (word ∷ mode ∷ cells ∷ requests ∷ []) = if bytes_eq word (codes "demo") then option_and_then (demo_by cells requests) (mode_of mode) else None
demo_of words = None

pub data Call : Type 0 where
  ByDesign : Command → Call
  ByTrace : Names → Call
  ByChain : Given → Call

-- those, or those of a command over a design
abbrev pub call_by : List (List ℕ) → Option Names → Option Given → Option Call
call_by words (Some names) chain = Some (ByTrace names)
call_by words None (Some given) = Some (ByChain given)
call_by words None None = option_map ByDesign (command_of words)

abbrev pub call_of : List (List ℕ) → Option Call
call_of words = call_by words (replay_of words) (demo_of words)

-- files that are named were asked for, in the order in which they are taken, and no others; some of them
abbrev pub AsksFrontOf : Option Contents → Option Call → Option (List (List ℕ)) → Option (List (List ℕ)) → Type 0
AsksFrontOf told None old new = new ≡ old
AsksFrontOf told (Some (ByDesign command)) old new = by_design.AsksFrontOf told (Some command) old new
AsksFrontOf told (Some (ByTrace names)) old new = AppendsFront old new (replay.names_of names)
AsksFrontOf told (Some (ByChain given)) old new = AppendsFront old new (given.requests ∷ [])

-- and the last of them was not read
abbrev pub StopsInsideOf : {S : Type 0} → Option Contents → Option Call → (S → Option (List (List ℕ))) → (S → ℕ) → S → S → Type 0
StopsInsideOf told None asked fault_count old new = ⊥
StopsInsideOf told (Some (ByDesign command)) asked fault_count old new = by_design.StopsInsideOf told (Some command) asked fault_count old new
StopsInsideOf told (Some (ByTrace names)) asked fault_count old new = StopsAt asked fault_count old new (replay.names_of names)
StopsInsideOf told (Some (ByChain given)) asked fault_count old new = StopsAt asked fault_count old new (given.requests ∷ [])

-- a fact of the files and of what is asked, where the files are told and the words ask something
abbrev pub IfCalled : Option Contents → Option Call → (Contents → Call → Type 0) → Type 0
IfCalled (Some files) (Some call) P = P files call
IfCalled (Some files) None P = ⊤
IfCalled None call P = ⊤

-- ---- how a run ends

-- what the status of a run may be
abbrev pub is_run_status : ℕ → Bool
is_run_status status = design.is_status status || status == 5

-- by the words: 3, 4 and 6 only of a command or a demo that has what they refuse, 5 only of a replay
abbrev pub is_status_of : Option Call → ℕ → Bool
is_status_of None status = design.is_status_for None status
is_status_of (Some (ByDesign command)) status = design.is_status_for (Some command) status
is_status_of (Some (ByTrace names)) status = replay.is_status status
is_status_of (Some (ByChain given)) status = demo.is_status status

-- the files that were asked for, by the status
abbrev pub AsksByStatus : Option Contents → Option Call → ℕ → Option (List (List ℕ)) → Option (List (List ℕ)) → Option (List ℕ) → Option (List ℕ) → Type 0
AsksByStatus told None status asked_old asked_new old new = Appends asked_old asked_new []
AsksByStatus told (Some (ByDesign command)) status asked_old asked_new old new = design.AsksCommand told command status asked_old asked_new
AsksByStatus told (Some (ByTrace names)) status asked_old asked_new old new = replay.AsksByStatus names status asked_old asked_new old new
AsksByStatus told (Some (ByChain given)) status asked_old asked_new old new = demo.AsksByStatus given status asked_old asked_new

-- a command over a design that writes a symbol file, waves or a session has found the net and the table that they stand on
abbrev pub Compiles : Contents → Call → Type 0
Compiles files (ByDesign command) = CompilesCommand files command
Compiles files (ByTrace names) = ⊤
Compiles files (ByChain given) = ⊤

-- it ended with the answer that is asked for, and the sink took its whole text
abbrev pub EndsAsCalled : List Heard → Contents → Call → ℕ → Option (List ℕ) → Option (List ℕ) → Type 0
EndsAsCalled heard files (ByDesign command) status old new = design.EndsAsAsked heard files command status old new
EndsAsCalled heard files (ByTrace names) status old new = replay.EndsAsAsked heard files names status old new
EndsAsCalled heard files (ByChain given) status old new = demo.EndsAsAsked heard files given status old new

-- the sink took nothing, or a front of the text that is asked for
abbrev pub TakesSomeOf : List Heard → Contents → Call → Option (List ℕ) → Option (List ℕ) → Type 0
TakesSomeOf heard files (ByDesign command) old new = design.TakesSome heard files command old new
TakesSomeOf heard files (ByTrace names) old new = replay.TakesSome heard files names old new
TakesSomeOf heard files (ByChain given) old new = demo.TakesSome heard files given old new

-- where the files ask for an answer, and neither count has risen, the run ended with its status and its whole text was taken, or memory
-- ran out
abbrev pub CompletesCall : List Heard → Contents → Call → ℕ → Option (List ℕ) → Option (List ℕ) → Type 0 → Type 0 → Type 0
CompletesCall heard files (ByDesign command) status old new read_rose write_rose = design.Completes heard files command status old new read_rose write_rose
CompletesCall heard files (ByTrace names) status old new read_rose write_rose = replay.Completes heard files names status old new read_rose write_rose
CompletesCall heard files (ByChain given) status old new read_rose write_rose = demo.Completes heard files given status old new read_rose write_rose
