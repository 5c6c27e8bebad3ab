use Rattle.std.proofs.Common.{◌≡◌, ◌≤◌, ◌+◌, ◌++◌, length, map, vec_capacity}
use Rattle.std.specs.Vec.Iter.{into_iter_items, into_iter_len}
use Rattle.hub_core.specs.Ends.{ends_from, links_from}
use Rattle.hub_core.proofs.seats.finish_all.Given as goal

abbrev pub invariant-loop-client : goal.invariant-loop-client
invariant-loop-client g l = record {
  shut : map g.L.Link.meaning l.links.items ++ links_from g.L.Link.meaning l.here (length l.ends.items) (into_iter_items l.client-iterator) ≡ links_from g.L.Link.meaning l.here 0 l.fn.clients.items;
  ended : l.ends.items ++ ends_from l.byes (length l.ends.items) (into_iter_items l.client-iterator) ≡ ends_from l.byes 0 l.fn.clients.items;
  links_room : length l.links.items + into_iter_len l.client-iterator ≤ vec_capacity l.links;
  ends_room : length l.ends.items + into_iter_len l.client-iterator ≤ vec_capacity l.ends;
  left : into_iter_len l.client-iterator ≡ length (into_iter_items l.client-iterator);
}
