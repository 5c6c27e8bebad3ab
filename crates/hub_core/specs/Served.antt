-- What is given back of a hub whose clients were served: each client's lines and requests, by the journal, and how it ended.
use Rattle.std.specs.Prelude.{◌≡◌, ℕ, true, false, List, []}
use Rattle.world_core.specs.World.{World}
use Rattle.machine_core.specs.Reading.{Reader}
use Rattle.req_json.specs.Texts.{texts_of}
use Rattle.link_edge.specs.Links.{Meaning}
use Rattle.hub_core.specs.declared.event.HubEvent.{HubEvent}
use Rattle.hub_core.specs.declared.served.ClientEnd.{ClientEnd}
use Rattle.hub_core.specs.declared.served.HubEnd.{HubEnd}
use Rattle.hub_core.specs.declared.served.HubEnd.TheVariants as hub
use Rattle.hub_core.specs.Hubs.{HubState, is_here}
use Rattle.hub_core.specs.HubJournals.{hub_deeds, asks_of, client_lines, after_hub_deeds, is_proper, took_leave, closing_of}
use Rattle.hub_core.specs.Paces.{nobody, is_paced}
use Rattle.hub_core.specs.Ends.{AllServed}

-- From a hub that stood as the first state, over links that meant this at the start and now mean this.
pub record HubCarries (read : Reader) (w : World) (first : HubState) (starts nows : List Meaning) (es : List ClientEnd) (events : List HubEvent) (closing : List (List ℕ)) (end : HubEnd) : Type 0 where
  -- each client asked what was read of it, in order, and was told its own lines
  pub each : AllServed 0 (λ k. asks_of k (hub_deeds events)) (λ k. texts_of (client_lines read w k (is_here first k) first.machine (hub_deeds events)))
      (λ k. took_leave read w k first.machine (hub_deeds events)) (λ k. is_here (after_hub_deeds read w first (hub_deeds events)) k) starts nows es
  -- who asks or leaves is here, and an accepted `bye` is followed directly by its leave; between two requests of one client the session goes on
  pub proper : is_proper read w first (hub_deeds events) ≡ true
  pub paced : is_paced read w first nobody (hub_deeds events) ≡ true
  -- all left, and the last lines are those of the journal; or memory ran out, and there are none
  pub all_left : end ≡ hub.AllLeft → (k : ℕ) → is_here (after_hub_deeds read w first (hub_deeds events)) k ≡ false
  pub closing_is : end ≡ hub.AllLeft → closing ≡ closing_of read w first.machine events
  pub no_closing : end ≡ hub.NoMemory → closing ≡ []

-- served; or there was no memory to begin, and the links are as they were
pub data HubServes (read : Reader) (w : World) (first : HubState) (starts nows : List Meaning) (es : List ClientEnd) (events : List HubEvent) (closing : List (List ℕ)) (end : HubEnd) : Type 0 where
  carried : HubCarries read w first starts nows es events closing end → HubServes read w first starts nows es events closing end
  unserved : nows ≡ starts → es ≡ [] → events ≡ [] → closing ≡ [] → end ≡ hub.NoMemory → HubServes read w first starts nows es events closing end
