-- The journal of a connection: what was done with its session, where consecutive turns stand as one event.
use Rattle.std.specs.Prelude.{◌≡◌, ◌+◌, ◌⊎◌, ℕ, zero, suc, Bool, List, [], ◌∷◌, ◌++◌}
use Rattle.world_core.specs.World.{World}
use Rattle.machine_core.specs.Reading.{Reader}
use Rattle.machine_core.specs.Machine.{Machine}
use Rattle.machine_core.specs.Journal as core
use Rattle.machine_core.specs.Journal.{Entry, Ask, closed, journal_from}
use Rattle.req_json.specs.Asked.{asked}
use Rattle.duo_run.specs.declared.event.Event.{Event}
use Rattle.duo_run.specs.declared.event.Event.TheVariants.{Request, Turns}
use Rattle.req_json.specs.Texts.{texts_of}
use Rattle.duo_run.specs.Deeds.{Deed, Asks, Goes, at_start, after_deeds}

-- as a journal of the machine
unfoldable pub entries : List Event → List Entry
entries [] = []
entries (Request text ∷ events) = Ask (asked text) ∷ entries events
entries (Turns n ∷ events) = core.Turns n ∷ entries events

-- its requests
unfoldable pub requests_of : List Event → List (List ℕ)
requests_of [] = []
requests_of (Request text ∷ events) = text ∷ requests_of events
requests_of (Turns n ∷ events) = requests_of events

-- its requests and turns
abbrev pub turns : ℕ → List Deed
turns zero = []
turns (suc n) = Goes ∷ turns n

unfoldable pub deeds_of : List Event → List Deed
deeds_of [] = []
deeds_of (Request text ∷ events) = Asks text ∷ deeds_of events
deeds_of (Turns n ∷ events) = turns n ++ deeds_of events

-- the texts of its output, closing lines included
unfoldable pub output_of : Reader → World → Machine → List Event → List (List ℕ)
output_of read w m events = texts_of (closed (journal_from read w m (entries events)))

-- a `bye` was accepted
abbrev pub took_leave : Reader → World → Machine → List Event → Bool
took_leave read w m events = (after_deeds read w (at_start m) (deeds_of events)).left

-- one turn more at the end
abbrev pub TurnAdded : List Event → List Event → Type 0
TurnAdded old new =
    ((before : List Event) × (n : ℕ) × (old ≡ before ++ Turns n ∷ []) × (new ≡ before ++ Turns (n + 1) ∷ [])) ⊎ (new ≡ old ++ Turns 1 ∷ [])
