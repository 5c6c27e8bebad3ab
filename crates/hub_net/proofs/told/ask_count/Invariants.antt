use Rattle.std.proofs.Common.{◌≡◌, ◌+◌, ◌≤◌, drop, length}
use Rattle.hub_core.specs.HubJournals.{asks_of, hub_deeds}
use Rattle.hub_net.proofs.told.ask_count.Given as goal

-- those so far, and those of what is left
abbrev pub invariant-loop-event : goal.invariant-loop-event
invariant-loop-event l = (l.count + length (asks_of l.client (hub_deeds (drop l.event-index l.events))) ≡ length (asks_of l.client (hub_deeds l.events))) × (l.count ≤ l.event-index)
