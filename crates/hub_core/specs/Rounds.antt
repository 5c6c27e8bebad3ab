-- A hub while its clients are served.
use Rattle.std.specs.Prelude.{◌≡◌, ◌⊎◌, ◌+◌, ℕ, Bool, true, false, List, [], ◌∷◌, ◌++◌, set, slice_index_or}
use Rattle.world_core.specs.World.{World}
use Rattle.machine_core.specs.Reading.{Reader}
use Rattle.machine_core.specs.Journal.{Replied}
use Rattle.req_json.specs.Texts.{line_text}
use Rattle.link_edge.specs.Links.{Meaning}
use Rattle.hub_core.specs.declared.line.Line.{Line}
use Rattle.hub_core.specs.declared.client.Client.{Client}
use Rattle.hub_core.specs.declared.event.HubEvent.{HubEvent}
use Rattle.hub_core.specs.declared.event.HubEvent.TheVariants.{Turns}
use Rattle.hub_core.specs.Hubs.{HubState, line, answer_in, turned}
use Rattle.hub_core.specs.HubJournals.{HubDeed, Asks, Leaves, Goes, hub_deeds, asks_of, after_hub_deed, after_hub_deeds, is_proper, took_leave}
use Rattle.hub_core.specs.Clients.{AllFit, lines_to}
use Rattle.hub_core.specs.Paces.{HubPaced}

-- what is told of a deed, to whom it may be
abbrev pub told_in : Reader → World → HubState → HubDeed → List Line
told_in read w s (Asks client text) = line client (line_text (Replied (answer_in read w s.machine text).reply)) ∷ []
told_in read w s (Leaves client) = []
told_in read w s Goes = (turned w s).lines

unfoldable pub hub_lines : Reader → World → HubState → List HubDeed → List Line
hub_lines read w s [] = []
hub_lines read w s (d ∷ ds) = told_in read w s d ++ hub_lines read w (after_hub_deed read w s d) ds

-- From a hub that stood as the first state, over links that meant this at the start: it stands where its journal leads, no client asks
-- that is not here, and each client was told its lines, but for these that were read of it and not dealt with yet.
pub record HubHeld {L : Type 0} (m : L → Meaning) (read : Reader) (w : World) (first : HubState) (starts : List Meaning) (state : HubState) (cs : List (Client L)) (events : List HubEvent) (taken : ℕ → List (List ℕ)) : Type 0 where
  pub state_is : state ≡ after_hub_deeds read w first (hub_deeds events)
  pub proper : is_proper read w first (hub_deeds events) ≡ true
  pub fit : AllFit m 0 (λ j. asks_of j (hub_deeds events) ++ taken j) (λ j. lines_to j (hub_lines read w first (hub_deeds events))) starts cs

-- what a client that asks does: it leaves too, where it takes its leave
abbrev pub asked_deeds : Bool → ℕ → List ℕ → List HubDeed
asked_deeds true client text = Asks client text ∷ Leaves client ∷ []
asked_deeds false client text = Asks client text ∷ []

-- one turn more at the end
abbrev pub TurnAdded : List HubEvent → List HubEvent → Type 0
TurnAdded old new =
    ((before : List HubEvent) × (n : ℕ) × (old ≡ before ++ Turns n ∷ []) × (new ≡ before ++ Turns (n + 1) ∷ [])) ⊎ (new ≡ old ++ Turns 1 ∷ [])

-- who took its leave, as it is kept
abbrev pub byes_after : Bool → ℕ → List Bool → List Bool
byes_after true client byes = set byes client true
byes_after false client byes = byes

-- the same, with who took its leave; and no turn is owed to this client and to those behind it
pub record HubAt {L : Type 0} (m : L → Meaning) (read : Reader) (w : World) (first : HubState) (starts : List Meaning) (state : HubState) (cs : List (Client L)) (events : List HubEvent) (byes : List Bool) (taken : ℕ → List (List ℕ)) (client : ℕ) : Type 0 where
  pub held : HubHeld m read w first starts state cs events taken
  pub paced : HubPaced read w first events client
  pub left : (k : ℕ) → slice_index_or byes k false ≡ took_leave read w k first.machine (hub_deeds events)
