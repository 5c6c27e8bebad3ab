-- A replay, judged, and the text that goes with what was judged.
use Rattle.std.specs.Prelude.{◌≡◌, ◌≢◌, ℕ, List, [], ◌∷◌, Option, Some, None, Ok, Err}
use Rattle.io_edge.specs.Taken.{Appends, AppendsFront}
use Rattle.listen.specs.Pairs.{Heard}
use Rattle.symtab.specs.declared.parts.TableParts.{TableParts}
use Rattle.symtab_json.specs.declared.fault.TableFault.TheVariants.{NoMemory}
use Rattle.trace_core.specs.Samples.{Samples}
use Rattle.trace_world.specs.TraceWorld.{trace_world}
use Rattle.vcd_trace.specs.Kept.{samples_of}
use Rattle.trace_judge.specs.Judgement.{IsRefusal}
use Rattle.trace_judge.specs.Refusals.{table_line, trace_line}
use Rattle.machine_core.specs.Reading.{Reader, IsReader}
use Rattle.batch_run.specs.Texts.{batch_text, requests_fault}
use Rattle.run_status.specs.Statuses.{status_of}
use Rattle.run_status.specs.declared.Ending.TheVariants as ends
use Rattle.replay_run.specs.Asked.{Names, Contents, HoldsTable, HoldsTrace, HoldsRequests}
use Rattle.replay_run.specs.declared.judge.Replay.{Replay}
use Rattle.replay_run.specs.declared.judge.Judged.{Judged}
use Rattle.replay_run.specs.declared.judge.Judged.TheVariants as judged

-- without where the names lie in memory
abbrev pub names_as : Replay → Names
names_as replay = record { symbols = replay.symbols.now; dump = replay.dump.now; scope = replay.scope.now; requests = replay.requests.now }

-- so the files of a replay are judged
abbrev pub Judges : Contents → Names → Judged → Type 0
Judges files names (judged.NoTable fault) = HoldsTable files names (Err fault)
Judges files names (judged.NoTrace fault) = (parts : TableParts) × HoldsTable files names (Ok parts) × HoldsTrace files names parts (Err fault)
Judges files names judged.NoRequests = (parts : TableParts) × HoldsTable files names (Ok parts) × ((samples : Samples) × HoldsTrace files names parts (Ok samples)) × HoldsRequests files names None
Judges files names (judged.Walked walk) =
    HoldsTable files names (Ok walk.table) × HoldsTrace files names walk.table (Ok (samples_of walk.trace)) × HoldsRequests files names (Some walk.requests.items)

-- the names that were asked for before it was judged so, and those of them behind the symbol file
abbrev pub asked_behind : Names → Judged → List (List ℕ)
asked_behind names (judged.NoTable fault) = []
asked_behind names (judged.NoTrace fault) = names.dump ∷ []
asked_behind names judged.NoRequests = names.dump ∷ names.requests ∷ []
asked_behind names (judged.Walked walk) = names.dump ∷ names.requests ∷ []

abbrev pub asked_for : Names → Judged → List (List ℕ)
asked_for names j = names.symbols ∷ asked_behind names j

-- what was refused has a line
abbrev pub HasLine : Judged → Type 0
HasLine (judged.NoTable fault) = fault ≢ NoMemory
HasLine (judged.NoTrace fault) = IsRefusal fault
HasLine judged.NoRequests = Unit {0}
HasLine (judged.Walked walk) = Unit {0}

abbrev pub judged_status : Judged → ℕ
judged_status (judged.NoTable fault) = status_of ends.NoTrace
judged_status (judged.NoTrace fault) = status_of ends.NoTrace
judged_status judged.NoRequests = status_of ends.NoRequests
judged_status (judged.Walked walk) = status_of ends.Written

-- what a session over a table and samples puts out for these requests, with listeners that mean this
abbrev pub IsWalkText : List Heard → TableParts → Samples → List ℕ → List ℕ → Type 0
IsWalkText heard parts samples requests text = (read : Reader) × IsReader read × (text ≡ batch_text read (trace_world parts samples) heard requests)

-- the text that goes with what was judged
abbrev pub IsTextOf : List Heard → Judged → List ℕ → Type 0
IsTextOf heard (judged.NoTable fault) text = text ≡ table_line fault
IsTextOf heard (judged.NoTrace fault) text = text ≡ trace_line fault
IsTextOf heard judged.NoRequests text = text ≡ requests_fault
IsTextOf heard (judged.Walked walk) text = IsWalkText heard walk.table (samples_of walk.trace) walk.requests.items text

-- it was taken, or a front of it
pub record TakesText (heard : List Heard) (judged : Judged) (old new : Option (List ℕ)) : Type 0 where
  pub taken : (text : List ℕ) → IsTextOf heard judged text → Appends old new text

pub record TakesTextFront (heard : List Heard) (judged : Judged) (old new : Option (List ℕ)) : Type 0 where
  pub taken : (text : List ℕ) → IsTextOf heard judged text → AppendsFront old new text

pub record TakesWalk (heard : List Heard) (parts : TableParts) (samples : Samples) (requests : List ℕ) (old new : Option (List ℕ)) : Type 0 where
  pub taken : (text : List ℕ) → IsWalkText heard parts samples requests text → Appends old new text

pub record TakesWalkFront (heard : List Heard) (parts : TableParts) (samples : Samples) (requests : List ℕ) (old new : Option (List ℕ)) : Type 0 where
  pub taken : (text : List ℕ) → IsWalkText heard parts samples requests text → AppendsFront old new text
