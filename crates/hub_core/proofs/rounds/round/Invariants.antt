use Rattle.std.proofs.Common.{◌≡◌, List, map, option_map, length}
use Rattle.machine_core.specs.Reading.{Reader, IsReader}
use Rattle.dbg_core.specs.World.{world_of}
use Rattle.link_edge.specs.Links.{Meaning}
use Rattle.hub_core.specs.Hubs.{HubState}
use Rattle.hub_core.specs.States.{hub_state}
use Rattle.hub_core.specs.Clients.{AllUsable, nothing}
use Rattle.hub_core.specs.Rounds.{HubAt}
use Rattle.hub_core.proofs.rounds.round.Given as goal

abbrev pub invariant-loop-k : goal.invariant-loop-k
invariant-loop-k g l = record {
  table : l.hub.session.table ≡ l.initial.hub.session.table;
  samples : g.T.Trace.samples l.hub.session.trace ≡ g.T.Trace.samples l.initial.hub.session.trace;
  len : length l.clients ≡ length l.initial.clients;
  byes : length l.journal.byes.items ≡ length l.initial.journal.byes.items;
  usable : AllUsable g.L.Link.meaning l.clients;
  keeps : (read : Reader) → IsReader read → (first : HubState) (starts : List Meaning)
      → HubAt g.L.Link.meaning read (world_of l.initial.hub.session.table (g.T.Trace.samples l.initial.hub.session.trace)) first starts (hub_state l.initial.hub.session l.initial.hub.here.items (map (option_map (λ b. (goal.Listener-dyn g (b.vtable, b.value)).heard b.value)) l.initial.hub.listeners.boxes.items)) l.initial.clients l.initial.journal.events.items l.initial.journal.byes.items nothing 0
      → HubAt g.L.Link.meaning read (world_of l.initial.hub.session.table (g.T.Trace.samples l.initial.hub.session.trace)) first starts (hub_state l.hub.session l.hub.here.items (map (option_map (λ b. (goal.Listener-dyn g (b.vtable, b.value)).heard b.value)) l.hub.listeners.boxes.items)) l.clients l.journal.events.items l.journal.byes.items nothing l.k;
}
