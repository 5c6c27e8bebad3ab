use Rattle.std.proofs.Common.{◌≡◌, ℕ, List, length}
use Rattle.link_edge.specs.Links.{Meaning}
use Rattle.hub_core.specs.Clients.{AllFit, AllUsable}
use Rattle.hub_core.proofs.crowd.part_all.Given as goal

abbrev pub invariant-loop-k : goal.invariant-loop-k
invariant-loop-k g l = record {
  keeps : (starts : List Meaning) (asked made : ℕ → List (List ℕ)) → AllFit g.L.Link.meaning 0 asked made starts l.initial.clients → AllFit g.L.Link.meaning 0 asked made starts l.clients;
  usable : AllUsable g.L.Link.meaning l.clients;
  len : length l.clients ≡ length l.initial.clients;
}
