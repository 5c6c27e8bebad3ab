-- What the hub of the links that came is, and what is told of each client.
use Rattle.std.specs.Prelude.{◌≡◌, ◌⊎◌, ℕ, suc, Bool, true, false, List, [], ◌∷◌, Option, None, Some, All, drop, length, map, nat_eq, replicate, codes, if◌then◌else◌}
use Rattle.bv_core.specs.Value.{Bits}
use Rattle.exec_core.specs.Whole.{Place}
use Rattle.listen.specs.Pairs.{Heard}
use Rattle.machine_core.specs.Reading.{Reader, IsReader}
use Rattle.machine_core.specs.Machine.{opening}
use Rattle.link_edge.specs.Links.{Meaning, IsFresh, after_close}
use Rattle.link_edge.specs.declared.answers.End.TheVariants.{Bye, Closed, Failed, NoMemory}
use Rattle.hub_core.specs.declared.event.HubEvent.{HubEvent}
use Rattle.hub_core.specs.declared.event.HubEvent.TheVariants.{Ask, Left, Turns}
use Rattle.hub_core.specs.declared.served.ClientEnd.{ClientEnd}
use Rattle.hub_core.specs.declared.served.HubServed.{HubServed}
use Rattle.hub_core.specs.declared.served.HubEnd.TheVariants as hub_ends
use Rattle.hub_core.specs.Hubs.{HubState}
use Rattle.hub_core.specs.HubJournals.{HubDeed, asks_of, hub_deeds}
use Rattle.hub_core.specs.Served.{HubServes}
use Rattle.serve_net.specs.declared.visit.Visit.{Visit}
use Rattle.serve_net.specs.declared.visit.Visit.TheVariants.{NoLink, Linked}
use Rattle.serve_net.specs.Visits.{Told}
use Rattle.show_net.specs.Over.{Over, world_over, RunsAs}

-- ---- the hub

-- a new session with so many clients, all of which are here
abbrev pub first_of : List Heard → ℕ → HubState
first_of heard clients = record { machine = opening heard; here = replicate clients true }

-- One session with the listeners that mean this was served to links that had just come, so many of them, which were closed then: all that
-- each received and sent passed through it since it came, and the session is one over each run of what is shown.
pub record IsHub {L : Type 0} (meant : L → Meaning) (over : Over) (heard : List Heard) (came : ℕ) (hub : HubServed L) : Type 0 where
  pub starts : List Meaning
  pub counted : length starts ≡ came
  pub fresh : All IsFresh starts
  pub nows : List Meaning
  pub served : (run : List (Place → Bits)) → RunsAs over run → (read : Reader) → IsReader read
      → HubServes read (world_over over run) (first_of heard came) starts nows hub.clients.items hub.journal.items hub.closing.items hub.end
  pub closed : map meant hub.links.items ≡ map after_close nows
  -- each client has an end; or none has, where there was no memory to begin
  pub seated : ((hub.clients.items ≡ []) × (hub.end ≡ hub_ends.NoMemory)) ⊎ (length hub.clients.items ≡ came)

-- ---- what is told of the clients

-- of a link comes a client
abbrev pub client : List ℕ
client = codes "client "

-- how many requests of a client an event is
abbrev pub ask_in : ℕ → HubEvent → ℕ
ask_in k (Ask asker text) = if nat_eq asker k then 1 else 0
ask_in k (Left asker) = 0
ask_in k (Turns n) = 0

-- how each ended, and how many of its requests were applied, from this number on
unfoldable pub told_from : ℕ → List ClientEnd → List HubDeed → List Told
told_from k [] deeds = []
told_from k (e ∷ es) deeds = (e.end, length (asks_of k deeds)) ∷ told_from (suc k) es deeds

abbrev pub told_in : {L : Type 0} → Option (HubServed L) → List Told
told_in None = []
told_in (Some hub) = told_from 0 hub.clients.items (hub_deeds hub.journal.items)

-- the visit of the next client; none of one that ended for want of memory
abbrev pub visit_for : List Told → Option Visit
visit_for [] = None
visit_for ((Bye, requests) ∷ told) = Some (Linked Bye requests)
visit_for ((Closed, requests) ∷ told) = Some (Linked Closed requests)
visit_for ((Failed, requests) ∷ told) = Some (Linked Failed requests)
visit_for ((NoMemory, requests) ∷ told) = None

-- the visits at the times that a link came, or none did: up to the first client that has none
abbrev pub next_visit : Option Visit → List Visit → List Visit
next_visit None visits = []
next_visit (Some visit) visits = visit ∷ visits

unfoldable pub visits_in : List Bool → List Told → List Visit
visits_in [] told = []
visits_in (false ∷ came) told = NoLink ∷ visits_in came told
visits_in (true ∷ came) told = next_visit (visit_for told) (visits_in came (drop 1 told))
