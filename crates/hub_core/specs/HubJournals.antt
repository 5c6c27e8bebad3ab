-- The journal of a hub: what was done with it, one by one; the lines of each client by it; and what is never done.
use Rattle.std.specs.Prelude.{◌≡◌, ℕ, zero, suc, Bool, true, false, ◌&&◌, ◌||◌, List, [], ◌∷◌, ◌++◌, if◌then◌else◌, nat_eq}
use Rattle.world_core.specs.World.{World}
use Rattle.machine_core.specs.Reading.{Reader}
use Rattle.machine_core.specs.Machine.{Machine, turn_of}
use Rattle.machine_core.specs.Journal as core
use Rattle.machine_core.specs.Journal.{Entry, Replied, is_bye, journal_from, closing_lines}
use Rattle.req_json.specs.Asked.{asked}
use Rattle.req_json.specs.Texts.{texts_of}
use Rattle.hub_core.specs.declared.event.HubEvent.{HubEvent}
use Rattle.hub_core.specs.declared.event.HubEvent.TheVariants.{Ask, Left, Turns}
use Rattle.hub_core.specs.Hubs.{HubState, is_here, gone, answer_in, after_ask_in, takes_leave, told_of_turn, turned}

-- ---- what is done one by one: a client asks; it leaves; or the session goes on by one turn

pub data HubDeed : Type 0 where
  Asks : ℕ → List ℕ → HubDeed
  Leaves : ℕ → HubDeed
  Goes : HubDeed

abbrev pub goings : ℕ → List HubDeed
goings zero = []
goings (suc n) = Goes ∷ goings n

unfoldable pub hub_deeds : List HubEvent → List HubDeed
hub_deeds [] = []
hub_deeds (Ask client text ∷ es) = Asks client text ∷ hub_deeds es
hub_deeds (Left client ∷ es) = Leaves client ∷ hub_deeds es
hub_deeds (Turns n ∷ es) = goings n ++ hub_deeds es

-- what goes to one client alone
abbrev pub at_client : {A : Type 0} → ℕ → ℕ → List A → List A
at_client client k xs = if nat_eq client k then xs else []

-- what a client asked
abbrev pub asked_in : ℕ → HubDeed → List (List ℕ)
asked_in k (Asks client text) = at_client client k (text ∷ [])
asked_in k (Leaves client) = []
asked_in k Goes = []

unfoldable pub asks_of : ℕ → List HubDeed → List (List ℕ)
asks_of k [] = []
asks_of k (d ∷ ds) = asked_in k d ++ asks_of k ds

-- ---- the lines of one client: the replies to what it asks, and the notices that are made before it leaves

unfoldable pub client_lines : Reader → World → ℕ → Bool → Machine → List HubDeed → List core.Line
client_lines read w k here m [] = []
client_lines read w k here m (Asks client text ∷ ds) =
    at_client client k (Replied (answer_in read w m text).reply ∷ []) ++ client_lines read w k here (answer_in read w m text).after ds
client_lines read w k here m (Leaves client ∷ ds) = client_lines read w k (if nat_eq client k then false else here) m ds
client_lines read w k here m (Goes ∷ ds) = (if here then told_of_turn w m else []) ++ client_lines read w k here (turn_of w m).after ds

-- ---- its run

abbrev pub after_hub_deed : Reader → World → HubState → HubDeed → HubState
after_hub_deed read w s (Asks client text) = after_ask_in read w s text
after_hub_deed read w s (Leaves client) = gone client s
after_hub_deed read w s Goes = (turned w s).after

unfoldable pub after_hub_deeds : Reader → World → HubState → List HubDeed → HubState
after_hub_deeds read w s [] = s
after_hub_deeds read w s (d ∷ ds) = after_hub_deeds read w (after_hub_deed read w s d) ds

-- ---- it is a journal of the machine, where clients are left out

abbrev pub entry_of : HubEvent → List Entry
entry_of (Ask client text) = core.Ask (asked text) ∷ []
entry_of (Left client) = []
entry_of (Turns n) = core.Turns n ∷ []

unfoldable pub hub_entries : List HubEvent → List Entry
hub_entries [] = []
hub_entries (e ∷ es) = entry_of e ++ hub_entries es

-- the texts of the last lines, which belong to no client
abbrev pub closing_of : Reader → World → Machine → List HubEvent → List (List ℕ)
closing_of read w m es = texts_of (closing_lines (journal_from read w m (hub_entries es)).after.heard)

-- every request is that of one client, which does not leave
abbrev pub is_of : ℕ → HubEvent → Bool
is_of k (Ask client text) = nat_eq client k
is_of k (Left client) = if nat_eq client k then false else true
is_of k (Turns n) = true

unfoldable pub are_of : ℕ → List HubEvent → Bool
are_of k [] = true
are_of k (e ∷ es) = is_of k e && are_of k es

-- whatever the clients, the machine comes to where its journal leads; and what one client is told that alone asks, and does not leave, is
-- the output of that journal
pub record IsJournal (read : Reader) (w : World) (m : Machine) (es : List HubEvent) : Type 0 where
  pub state : (here : List Bool) → (after_hub_deeds read w (record { machine = m; here = here }) (hub_deeds es)).machine ≡ (journal_from read w m (hub_entries es)).after
  pub lines : (k : ℕ) → are_of k es ≡ true → client_lines read w k true m (hub_deeds es) ≡ (journal_from read w m (hub_entries es)).lines

abbrev pub HubJournalsAreJournals : Type 0
HubJournalsAreJournals = (read : Reader) (w : World) (m : Machine) (es : List HubEvent) → IsJournal read w m es

-- ---- what is never done

abbrev pub leaves_next : ℕ → List HubDeed → Bool
leaves_next client [] = false
leaves_next client (Leaves other ∷ ds) = nat_eq other client
leaves_next client (Asks other text ∷ ds) = false
leaves_next client (Goes ∷ ds) = false

-- who asks or leaves is here, and an accepted `bye` is followed directly by its leave
unfoldable pub is_proper : Reader → World → HubState → List HubDeed → Bool
is_proper read w s [] = true
is_proper read w s (Asks client text ∷ ds) =
    is_here s client && ((if takes_leave read w s text then leaves_next client ds else true) && is_proper read w (after_ask_in read w s text) ds)
is_proper read w s (Leaves client ∷ ds) = is_here s client && is_proper read w (gone client s) ds
is_proper read w s (Goes ∷ ds) = is_proper read w (turned w s).after ds

-- ---- what a client did

-- a client takes its leave by a `bye` that is accepted
unfoldable pub took_leave : Reader → World → ℕ → Machine → List HubDeed → Bool
took_leave read w k m [] = false
took_leave read w k m (Asks client text ∷ ds) = (nat_eq client k && is_bye (answer_in read w m text).reply.body) || took_leave read w k (answer_in read w m text).after ds
took_leave read w k m (Leaves client ∷ ds) = took_leave read w k m ds
took_leave read w k m (Goes ∷ ds) = took_leave read w k (turn_of w m).after ds
