-- A hub from its start to its end: what is given back of it.
use Rattle.std.proofs.Common.{◌≡◌, ℕ, Bool, false, List, [], ◌++◌, sym, ◌∙◌, ap, append-nil, get_or}
use Rattle.world_core.specs.World.{World}
use Rattle.machine_core.specs.Reading.{Reader}
use Rattle.machine_core.specs.Machine.{Machine}
use Rattle.machine_core.specs.Journal.{closing_lines}
use Rattle.req_json.specs.Texts.{texts_of}
use Rattle.link_edge.specs.Links.{Meaning}
use Rattle.hub_core.specs.declared.client.Client.{Client}
use Rattle.hub_core.specs.declared.event.HubEvent.{HubEvent}
use Rattle.hub_core.specs.declared.served.ClientEnd.{ClientEnd}
use Rattle.hub_core.specs.declared.served.HubEnd.{HubEnd}
use Rattle.hub_core.specs.declared.served.HubEnd.TheVariants as hub
use Rattle.hub_core.specs.Hubs.{HubState, is_here}
use Rattle.hub_core.specs.HubJournals.{hub_deeds, asks_of, client_lines, took_leave, after_hub_deeds}
use Rattle.hub_core.specs.Clients.{AllUsable, lines_to, nothing}
use Rattle.hub_core.specs.Ends.{AllOpen, ends_from, links_from}
use Rattle.hub_core.specs.Rounds.{HubAt, hub_lines}
use Rattle.hub_core.specs.Served.{HubCarries}
use Rattle.hub_core.proofs.Sharing.{lines_are}
use Rattle.hub_core.proofs.Ending.{all_served, served_same}
use Rattle.hub_core.proofs.Journaling.{are_journals}

pub carries : {L : Type 0} (m : L → Meaning) (read : Reader) (w : World) (first state : HubState) (starts nows : List Meaning) (cs : List (Client L)) (events : List HubEvent) (byes : List Bool) (k : ℕ) (es : List ClientEnd) (closing : List (List ℕ)) (end : HubEnd)
    → HubAt m read w first starts state cs events byes nothing k → AllOpen starts → AllUsable m cs → nows ≡ links_from m state.here 0 cs → es ≡ ends_from byes 0 cs
    → (end ≡ hub.AllLeft → (j : ℕ) → is_here state j ≡ false) → (end ≡ hub.AllLeft → closing ≡ texts_of (closing_lines state.machine.heard)) → (end ≡ hub.NoMemory → closing ≡ [])
    → HubCarries read w first starts nows es events closing end
carries m read w first state starts nows cs events byes k es closing end was still usable links ends none last lost =
    let ds = hub_deeds events in
    record {
      each = rw (links, ends) (served_same m 0 (λ j. asks_of j ds ++ nothing j) (λ j. lines_to j (hub_lines read w first ds)) (λ j. asks_of j ds) (λ j. texts_of (client_lines read w j (is_here first j) first.machine ds))
          (λ j. get_or byes j false) (λ j. is_here state j) (λ j. took_leave read w j first.machine ds) (λ j. is_here (after_hub_deeds read w first ds) j) starts (links_from m state.here 0 cs) (ends_from byes 0 cs)
          (all_served m 0 (λ j. asks_of j ds ++ nothing j) (λ j. lines_to j (hub_lines read w first ds)) state.here byes starts cs still usable was.held.fit)
          (λ j. (sym (append-nil (asks_of j ds)), sym (lines_are read w j first ds), sym (was.left j), ap (λ s. is_here s j) (sym was.held.state_is))));
      proper = was.held.proper;
      paced = was.paced.paced;
      all_left = λ e j. ap (λ s. is_here s j) (sym was.held.state_is) ∙ none e j;
      closing_is = λ e. last e ∙ ap (λ (n : Machine). texts_of (closing_lines n.heard)) (ap (λ (s : HubState). s.machine) was.held.state_is ∙ (are_journals read w first.machine events).state first.here);
      no_closing = lost;
    }
