-- That the session goes on between two requests of one client: who asked since it last went on, or stood still.
use Rattle.std.specs.Prelude.{◌≡◌, ◌≤◌, ℕ, Bool, true, false, not, ◌&&◌, List, [], ◌∷◌, if◌then◌else◌, nat_eq}
use Rattle.world_core.specs.World.{World}
use Rattle.machine_core.specs.Reading.{Reader}
use Rattle.machine_core.specs.Machine.{Machine, is_running}
use Rattle.hub_core.specs.declared.event.HubEvent.{HubEvent}
use Rattle.hub_core.specs.Hubs.{HubState, after_ask_in}
use Rattle.hub_core.specs.HubJournals.{HubDeed, Asks, Leaves, Goes, hub_deeds, after_hub_deed}

-- a turn is owed to no client
abbrev pub nobody : ℕ → Bool
nobody k = false

-- to one client more
abbrev pub and_one : ℕ → (ℕ → Bool) → ℕ → Bool
and_one client owed k = if nat_eq client k then true else owed k

-- only as long as the machine runs
abbrev pub while_running : Machine → (ℕ → Bool) → ℕ → Bool
while_running m owed k = if is_running m.motion then owed k else false

-- a turn is owed to who asks, until it is made, or the machine does not run
abbrev pub owed_after : Reader → World → HubState → (ℕ → Bool) → HubDeed → ℕ → Bool
owed_after read w s owed (Asks client text) k = while_running (after_ask_in read w s text).machine (and_one client owed) k
owed_after read w s owed (Leaves client) k = while_running s.machine owed k
owed_after read w s owed Goes k = false

unfoldable pub owed_by : Reader → World → HubState → (ℕ → Bool) → List HubDeed → ℕ → Bool
owed_by read w s owed [] k = owed k
owed_by read w s owed (d ∷ ds) k = owed_by read w (after_hub_deed read w s d) (owed_after read w s owed d) ds k

-- a client asks where no turn is owed to it
abbrev pub may_come : (ℕ → Bool) → HubDeed → Bool
may_come owed (Asks client text) = not (owed client)
may_come owed (Leaves client) = true
may_come owed Goes = true

-- between two requests of one client stands a turn, where the machine runs after the first of them and after all that is between them
unfoldable pub is_paced : Reader → World → HubState → (ℕ → Bool) → List HubDeed → Bool
is_paced read w s owed [] = true
is_paced read w s owed (d ∷ ds) = may_come owed d && is_paced read w (after_hub_deed read w s d) (owed_after read w s owed d) ds

-- it is so from this state on, and no turn is owed to this client and to those behind it
pub record HubPaced (read : Reader) (w : World) (first : HubState) (events : List HubEvent) (client : ℕ) : Type 0 where
  pub paced : is_paced read w first nobody (hub_deeds events) ≡ true
  pub free : (k : ℕ) → client ≤ k → owed_by read w first nobody (hub_deeds events) k ≡ false

-- the first client to which nothing is owed behind a round: the first of all, unless memory ran out
abbrev pub from_round : Bool → ℕ
from_round true = 0
from_round false = 8
