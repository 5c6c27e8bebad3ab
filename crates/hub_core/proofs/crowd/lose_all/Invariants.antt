use Rattle.std.proofs.Common.{◌++◌, ℕ, List}
use Rattle.link_edge.specs.Links.{Meaning}
use Rattle.hub_core.specs.Clients.{AllFit, AllUsable}
use Rattle.hub_core.proofs.Crowding.{at_below}
use Rattle.hub_core.proofs.crowd.lose_all.Given as goal

abbrev pub invariant-loop-client : goal.invariant-loop-client
invariant-loop-client g l = record {
  keeps : (starts : List Meaning) (asked made more : ℕ → List (List ℕ)) → AllFit g.L.Link.meaning 0 asked made starts l.initial.clients
      → AllFit g.L.Link.meaning 0 asked (λ j. made j ++ at_below l.client-index j (more j)) starts l.clients;
  usable : AllUsable g.L.Link.meaning l.clients;
}
