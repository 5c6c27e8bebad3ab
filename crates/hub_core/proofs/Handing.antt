-- What is given back of a hub, handed on: of other links, whose clients were served the same.
use Rattle.std.proofs.Common.{ℕ, Bool, List}
use Rattle.world_core.specs.World.{World}
use Rattle.machine_core.specs.Reading.{Reader}
use Rattle.req_json.specs.Texts.{texts_of}
use Rattle.link_edge.specs.Links.{Meaning}
use Rattle.hub_core.specs.declared.event.HubEvent.{HubEvent}
use Rattle.hub_core.specs.declared.served.ClientEnd.{ClientEnd}
use Rattle.hub_core.specs.declared.served.HubEnd.{HubEnd}
use Rattle.hub_core.specs.Hubs.{HubState, is_here}
use Rattle.hub_core.specs.HubJournals.{hub_deeds, asks_of, client_lines, after_hub_deeds, took_leave}
use Rattle.hub_core.specs.Ends.{AllServed}
use Rattle.hub_core.specs.Served.{HubCarries}

-- each was served so, by some lists of what it asked and was told
pub record SomeServed (starts nows : List Meaning) (es : List ClientEnd) : Type 0 where
  pub asked : ℕ → List (List ℕ)
  pub lines : ℕ → List (List ℕ)
  pub took : ℕ → Bool
  pub here : ℕ → Bool
  pub all : AllServed 0 asked lines took here starts nows es

pub some_served : (read : Reader) (w : World) (first : HubState) (starts nows : List Meaning) (es : List ClientEnd) (events : List HubEvent) (closing : List (List ℕ)) (end : HubEnd) → HubCarries read w first starts nows es events closing end
    → SomeServed starts nows es
some_served read w first starts nows es events closing end was =
    let ds = hub_deeds events in
    record {
      asked = λ k. asks_of k ds;
      lines = λ k. texts_of (client_lines read w k (is_here first k) first.machine ds);
      took = λ k. took_leave read w k first.machine ds;
      here = λ k. is_here (after_hub_deeds read w first ds) k;
      all = was.each;
    }

pub carried_on : (read : Reader) (w : World) (first : HubState) (starts nows : List Meaning) (es : List ClientEnd) (events : List HubEvent) (closing : List (List ℕ)) (end : HubEnd) → HubCarries read w first starts nows es events closing end
    → (starts' nows' : List Meaning) (es' : List ClientEnd)
    → ((asked lines : ℕ → List (List ℕ)) (took here : ℕ → Bool) → AllServed 0 asked lines took here starts nows es → AllServed 0 asked lines took here starts' nows' es')
    → HubCarries read w first starts' nows' es' events closing end
carried_on read w first starts nows es events closing end was starts' nows' es' on = record {
  each = on (λ k. asks_of k (hub_deeds events)) (λ k. texts_of (client_lines read w k (is_here first k) first.machine (hub_deeds events))) (λ k. took_leave read w k first.machine (hub_deeds events))
      (λ k. is_here (after_hub_deeds read w first (hub_deeds events)) k) was.each;
  proper = was.proper;
  paced = was.paced;
  all_left = was.all_left;
  closing_is = was.closing_is;
  no_closing = was.no_closing;
}
