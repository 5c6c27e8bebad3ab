use Rattle.std.proofs.Common.{◌≤◌, ◌≡◌, ◌+◌, ℕ, Bool, List, length, map, vec_capacity}
use Rattle.std.specs.Vec.Iter.{into_iter_items, into_iter_len}
use Rattle.link_edge.specs.Links.{Meaning}
use Rattle.hub_run.specs.Finished.{AllStand, AllReady}
use Rattle.hub_run.proofs.Standing.{Goes}
use Rattle.hub_run.proofs.finish.finish_all.Given as goal

abbrev pub invariant-loop-port : goal.invariant-loop-port
invariant-loop-port g l = record {
  each : AllReady (into_iter_items l.posts) (into_iter_items l.port-iterator) (into_iter_items l.ends);
  goes : (asked lines : ℕ → List (List ℕ)) (took here : ℕ → Bool) (starts : List Meaning) → AllStand g.L.Link.meaning 0 asked lines took here starts l.fn.posts.items l.fn.ports.items l.fn.ends.items
      → Goes g.L.Link.meaning (length l.served.items) asked lines took here starts (map g.L.Link.meaning l.links.items) l.served.items (into_iter_items l.posts) (into_iter_items l.port-iterator) (into_iter_items l.ends);
  links_room : length l.links.items + into_iter_len l.posts ≤ vec_capacity l.links;
  served_room : length l.served.items + into_iter_len l.posts ≤ vec_capacity l.served;
  left : into_iter_len l.port-iterator ≡ length (into_iter_items l.port-iterator);
  posts_left : into_iter_len l.posts ≡ length (into_iter_items l.posts);
  ends_left : into_iter_len l.ends ≡ length (into_iter_items l.ends);
}
