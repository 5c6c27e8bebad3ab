use Rattle.std.proofs.Common.{◌≡◌, ◌++◌, ℕ, List, length}
use Rattle.std.specs.Vec.Iter.{into_iter_items, into_iter_len}
use Rattle.hub_core.specs.declared.line.Line.{Line}
use Rattle.link_edge.specs.Links.{Meaning}
use Rattle.hub_core.specs.Clients.{AllFit, AllUsable, lines_to}
use Rattle.hub_core.proofs.crowd.deliver_all.Given as goal

abbrev pub invariant-loop-line : goal.invariant-loop-line
invariant-loop-line g l = record {
  done : (more : List Line) × (more ++ into_iter_items l.line-iterator ≡ l.fn.lines.items)
      × ((starts : List Meaning) (asked made : ℕ → List (List ℕ)) → AllFit g.L.Link.meaning 0 asked made starts l.initial.clients → AllFit g.L.Link.meaning 0 asked (λ j. made j ++ lines_to j more) starts l.clients);
  usable : AllUsable g.L.Link.meaning l.clients;
  len : length l.clients ≡ length l.initial.clients;
  left : into_iter_len l.line-iterator ≡ length (into_iter_items l.line-iterator);
}
