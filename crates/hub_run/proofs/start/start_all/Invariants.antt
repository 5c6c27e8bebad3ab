use Rattle.std.proofs.Common.{◌≡◌, ◌≤◌, ◌+◌, ◌++◌, List, length, map, vec_capacity}
use Rattle.std.specs.Vec.Iter.{into_iter_items, into_iter_len}
use Rattle.link_edge.specs.Links.{Meaning}
use Rattle.hub_core.specs.Ends.{AllOpen}
use Rattle.hub_run.specs.Ports.{AllBegin}
use Rattle.hub_run.proofs.start.start_all.Given as goal

abbrev pub invariant-loop-link : goal.invariant-loop-link
invariant-loop-link g l = record {
  begun : (done : List Meaning) × (done ++ map g.L.Link.meaning (into_iter_items l.link-iterator) ≡ map g.L.Link.meaning l.fn.links.items) × AllBegin g.L.Link.meaning done l.posts.items l.ports.items;
  still : AllOpen (map g.L.Link.meaning (into_iter_items l.link-iterator));
  posts_len : length l.posts.items + into_iter_len l.link-iterator ≡ length l.fn.links.items;
  ports_len : length l.ports.items + into_iter_len l.link-iterator ≡ length l.fn.links.items;
  posts_room : length l.posts.items + into_iter_len l.link-iterator ≤ vec_capacity l.posts;
  ports_room : length l.ports.items + into_iter_len l.link-iterator ≤ vec_capacity l.ports;
  left : into_iter_len l.link-iterator ≡ length (into_iter_items l.link-iterator);
}
