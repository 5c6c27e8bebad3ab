use Rattle.std.proofs.Common.{◌≡◌, ◌≤◌, ◌++◌, drop}
use Rattle.hub_core.specs.HubJournals.{hub_deeds}
use Rattle.hub_net.specs.Clients.{told_from, visits_in}
use Rattle.hub_net.proofs.told.visits_of.Given as goal

-- those so far, and those of what is left
abbrev pub invariant-loop-linked : goal.invariant-loop-linked
invariant-loop-linked l = record {
  visits : l.visits.items ++ visits_in (drop l.linked-index l.came) (drop l.client (told_from 0 l.clients (hub_deeds l.events))) ≡ visits_in l.came (told_from 0 l.clients (hub_deeds l.events));
  within : l.client ≤ l.linked-index;
}
