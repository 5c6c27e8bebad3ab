-- A walk as the list of its events, and the first of them that is at fault.
use Rattle.std.specs.Prelude.{ℕ, List, [], ◌∷◌, Option, Some, None, Result, Ok, Err, if◌then◌else◌, nat_le}
use Rattle.elab_core.specs.declared.fault.Count.{Count}
use Rattle.elab_core.specs.Walk.{Walk, Gives, Faulty, Counted, Fault, too_large, Seen, none_seen, one_more, seen_of, limit}

-- something that counts, or what is a fault by itself
pub data Event : Type 0 where
  Counts : Count → ℕ → Event
  Fails : Fault → Event

abbrev pub events : {A : Type 0} → Walk A → List Event
events (Gives a) = []
events (Faulty fault) = Fails fault ∷ []
events (Counted what line w) = Counts what line ∷ events w

-- the counts of a list of events
abbrev pub counted : Event → Seen → Seen
counted (Counts what line) seen = one_more what seen
counted (Fails fault) seen = seen

-- the counts of events, which stand newest first
abbrev pub tally : List Event → Seen
tally [] = none_seen
tally (e ∷ es) = counted e (tally es)

-- the fault of an event after those before it, which stand newest first: a fault of its own, or a count that passes its limit
abbrev pub fault_at : List Event → Event → Option Fault
fault_at before (Fails fault) = Some fault
fault_at before (Counts what line) = if nat_le (limit what) (seen_of what (tally before)) then Some (too_large line what) else None

abbrev pub or_later : Option Fault → Option Fault → Option Fault
or_later (Some fault) later = Some fault
or_later None later = later

-- the fault of the first event that has one
abbrev pub first_fault : List Event → List Event → Option Fault
first_fault before [] = None
first_fault before (e ∷ es) = or_later (fault_at before e) (first_fault (e ∷ before) es)

abbrev pub fault_in : {A : Type 0} → Result (A × Seen) Fault → Option Fault
fault_in (Ok found) = None
fault_in (Err fault) = Some fault
