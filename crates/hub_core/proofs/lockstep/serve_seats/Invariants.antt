use Rattle.std.proofs.Common.{◌≡◌, List, map, option_map, length}
use Rattle.machine_core.specs.Reading.{Reader, IsReader}
use Rattle.dbg_core.specs.World.{world_of}
use Rattle.link_edge.specs.Links.{Meaning}
use Rattle.hub_core.specs.States.{hub_state}
use Rattle.hub_core.specs.Clients.{AllFit, AllUsable, nothing}
use Rattle.hub_core.specs.Paces.{from_round}
use Rattle.hub_core.specs.Rounds.{HubAt}
use Rattle.hub_core.proofs.lockstep.serve_seats.Given as goal

abbrev pub invariant-loop : goal.invariant-loop
invariant-loop g l = record {
  table : l.hub.session.table ≡ l.fn.hub.session.table;
  samples : g.T.Trace.samples l.hub.session.trace ≡ g.T.Trace.samples l.fn.hub.session.trace;
  usable : AllUsable g.L.Link.meaning l.clients.items;
  few : (length l.clients.items ≡ length l.fn.seats.clients.items) × (length l.journal.byes.items ≡ length l.clients.items);
  keeps : (read : Reader) → IsReader read → (starts : List Meaning) → AllFit g.L.Link.meaning 0 nothing nothing starts l.fn.seats.clients.items
      → HubAt g.L.Link.meaning read (world_of l.fn.hub.session.table (g.T.Trace.samples l.fn.hub.session.trace)) (hub_state l.fn.hub.session l.fn.hub.here.items (map (option_map (λ b. (goal.Listener-dyn g (b.vtable, b.value)).heard b.value)) l.fn.hub.listeners.boxes.items)) starts
      (hub_state l.hub.session l.hub.here.items (map (option_map (λ b. (goal.Listener-dyn g (b.vtable, b.value)).heard b.value)) l.hub.listeners.boxes.items)) l.clients.items l.journal.events.items l.journal.byes.items nothing (from_round l.fed);
}
