-- What a replay asks for: the status and the text that the contents of its files give.
use Rattle.std.specs.Prelude.{◌≡◌, ◌≢◌, ℕ, ◌<◌, ◌≤◌, ◌==◌, Bool, ◌||◌, List, [], ◌∷◌, length, Option, Some, None, Result, Ok, Err, ◌⊎◌}
use Rattle.io_edge.specs.Taken.{Appends, AppendsFront}
use Rattle.listen.specs.Pairs.{Heard}
use Rattle.symtab.specs.declared.parts.TableParts.{TableParts}
use Rattle.symtab_json.specs.declared.fault.TableFault.{TableFault}
use Rattle.symtab_json.specs.declared.fault.TableFault.TheVariants.{NoMemory}
use Rattle.trace_core.specs.Samples.{Samples}
use Rattle.trace_world.specs.TraceWorld.{trace_world}
use Rattle.trace_judge.specs.declared.trace_fault.TraceFault.{TraceFault}
use Rattle.trace_judge.specs.Refusals.{table_line, trace_line}
use Rattle.trace_judge.specs.Judgement.{JudgesTable, IsRefusal, told_trace}
use Rattle.machine_core.specs.Reading.{Reader, IsReader}
use Rattle.run_status.specs.Statuses.{status_of}
use Rattle.run_status.specs.declared.Ending.TheVariants as ends
use Rattle.batch_run.specs.Texts.{batch_text, most_requests, requests_fault}

-- the names of a symbol file and of a value change dump file, a scope in that, and the name of a file of requests
pub record Names : Type 0 where
  pub symbols : List ℕ
  pub dump : List ℕ
  pub scope : List ℕ
  pub requests : List ℕ

-- the names of the files, in the order of the words
abbrev pub names_of : Names → List (List ℕ)
names_of names = names.symbols ∷ names.dump ∷ names.requests ∷ []

-- the bytes of each file by its name
abbrev pub Contents : Type 0
Contents = List ℕ → Option (List ℕ)

-- ---- what the files hold

-- the symbol file tells this table, or is refused for this
abbrev pub HoldsTable : Contents → Names → Result TableParts TableFault → Type 0
HoldsTable files names found = JudgesTable (files names.symbols) found

-- the dump file tells these samples of a table's nodes in the scope, or is refused for this
abbrev pub HoldsTrace : Contents → Names → TableParts → Result Samples TraceFault → Type 0
HoldsTrace files names parts found = (text : List ℕ) × (files names.dump ≡ Some text) × (told_trace parts names.scope text ≡ found)

-- the requests are this text, or are too long
abbrev pub HoldsRequests : Contents → Names → Option (List ℕ) → Type 0
HoldsRequests files names (Some text) = (files names.requests ≡ Some text) × (length text ≤ most_requests)
HoldsRequests files names None = (text : List ℕ) × (files names.requests ≡ Some text) × (most_requests < length text)

-- ---- what is asked for

-- the symbol file is refused, with the line of its refusal
pub record RefusesTable (files : Contents) (names : Names) (status : ℕ) (text : List ℕ) : Type 0 where
  pub fault : TableFault
  pub refused : HoldsTable files names (Err fault)
  pub status_is : status ≡ 5
  pub text_is : text ≡ table_line fault

-- the symbol file is accepted, and the dump file is refused
pub record RefusesTrace (files : Contents) (names : Names) (status : ℕ) (text : List ℕ) : Type 0 where
  pub parts : TableParts
  pub table : HoldsTable files names (Ok parts)
  pub fault : TraceFault
  pub refused : HoldsTrace files names parts (Err fault)
  pub status_is : status ≡ 5
  pub text_is : text ≡ trace_line fault

-- both are accepted, and the requests are too long
pub record RefusesRequests (files : Contents) (names : Names) (status : ℕ) (text : List ℕ) : Type 0 where
  pub parts : TableParts
  pub table : HoldsTable files names (Ok parts)
  pub samples : Samples
  pub trace : HoldsTrace files names parts (Ok samples)
  pub refused : HoldsRequests files names None
  pub status_is : status ≡ 6
  pub text_is : text ≡ requests_fault

-- all are accepted: what a session over the world of the table and the samples puts out for the requests, with listeners that mean this,
-- by the one way to read conditions
pub record ShowsSession (heard : List Heard) (files : Contents) (names : Names) (status : ℕ) (text : List ℕ) : Type 0 where
  pub parts : TableParts
  pub table : HoldsTable files names (Ok parts)
  pub samples : Samples
  pub trace : HoldsTrace files names parts (Ok samples)
  pub requests : List ℕ
  pub asked : HoldsRequests files names (Some requests)
  pub reader : Reader
  pub reads : IsReader reader
  pub status_is : status ≡ 0
  pub text_is : text ≡ batch_text reader (trace_world parts samples) heard requests

-- the symbol file is judged first, then the dump file, then the requests
pub data AsksReplay (heard : List Heard) (files : Contents) (names : Names) (status : ℕ) (text : List ℕ) : Type 0 where
  NoTable : RefusesTable files names status text → AsksReplay heard files names status text
  NoTrace : RefusesTrace files names status text → AsksReplay heard files names status text
  NoRequests : RefusesRequests files names status text → AsksReplay heard files names status text
  Accepted : ShowsSession heard files names status text → AsksReplay heard files names status text

-- ---- how a replay ends

-- what the status of one may be
abbrev pub is_status : ℕ → Bool
is_status status =
    status == status_of ends.Written || status == status_of ends.NoTrace || status == status_of ends.NoRequests
    || status == status_of ends.NotRead || status == status_of ends.NotTaken || status == status_of ends.OutOfMemory

-- the line of a refused symbol file was taken, or that of a refused dump file
pub record TakesTableLine (old new : Option (List ℕ)) : Type 0 where
  pub fault : TableFault
  pub refuses : fault ≢ NoMemory
  pub taken : Appends old new (table_line fault)

pub record TakesTraceLine (old new : Option (List ℕ)) : Type 0 where
  pub fault : TraceFault
  pub refuses : IsRefusal fault
  pub taken : Appends old new (trace_line fault)

abbrev pub TakesFileLine : Option (List ℕ) → Option (List ℕ) → Type 0
TakesFileLine old new = TakesTableLine old new ⊎ TakesTraceLine old new

-- the files that were asked for: the symbol file alone where it is refused, that and the dump file where this is, and else all, in the
-- order of the words
abbrev pub AsksRefused : Names → (asked_old asked_new : Option (List (List ℕ))) → (old new : Option (List ℕ)) → Type 0
AsksRefused names asked_old asked_new old new =
    (TakesTableLine old new × Appends asked_old asked_new (names.symbols ∷ [])) ⊎ (TakesTraceLine old new × Appends asked_old asked_new (names.symbols ∷ names.dump ∷ []))

pub record AsksByStatus (names : Names) (status : ℕ) (asked_old asked_new : Option (List (List ℕ))) (old new : Option (List ℕ)) : Type 0 where
  pub some : status ≡ 5 → AsksRefused names asked_old asked_new old new
  pub all : (status ≡ 0) ⊎ (status ≡ 6) → Appends asked_old asked_new (names_of names)

-- with the text that is asked for, of which the whole was taken
pub record EndsAsAsked (heard : List Heard) (files : Contents) (names : Names) (status : ℕ) (old new : Option (List ℕ)) : Type 0 where
  pub text : List ℕ
  pub asked : AsksReplay heard files names status text
  pub taken : Appends old new text

-- a front of the text that is asked for
pub record TakesFront (heard : List Heard) (files : Contents) (names : Names) (old new : Option (List ℕ)) : Type 0 where
  pub status : ℕ
  pub text : List ℕ
  pub asked : AsksReplay heard files names status text
  pub taken : AppendsFront old new text

-- nothing was taken, or a front of the text that is asked for
abbrev pub TakesSome : List Heard → Contents → Names → Option (List ℕ) → Option (List ℕ) → Type 0
TakesSome heard files names old new = (new ≡ old) ⊎ TakesFront heard files names old new

-- where the files ask for a text, and neither count has risen, the replay ended with its status and took its whole text, or memory ran
-- out
abbrev pub Completes : List Heard → Contents → Names → ℕ → Option (List ℕ) → Option (List ℕ) → Type 0 → Type 0 → Type 0
Completes heard files names status old new read_rose write_rose =
    (asked : ℕ) (text : List ℕ) → AsksReplay heard files names asked text → (read_rose → ⊥) → (write_rose → ⊥) → ((status ≡ asked) × Appends old new text) ⊎ (status ≡ 9)
