use Rattle.std.proofs.Common.{◌≡◌, ◌≤◌, ◌+◌, ◌++◌, List, length, map, vec_capacity}
use Rattle.std.specs.Vec.Iter.{into_iter_items, into_iter_len}
use Rattle.link_edge.specs.Links.{Meaning}
use Rattle.hub_core.specs.Clients.{AllFit, AllUsable, nothing}
use Rattle.hub_core.specs.Ends.{AllOpen}
use Rattle.hub_core.proofs.seats.clients_of.Given as goal

abbrev pub invariant-loop-link : goal.invariant-loop-link
invariant-loop-link g l = record {
  begun : (done : List Meaning) × (done ++ map g.L.Link.meaning (into_iter_items l.link-iterator) ≡ map g.L.Link.meaning l.fn.links.items) × AllFit g.L.Link.meaning 0 nothing nothing done l.clients.items;
  usable : AllUsable g.L.Link.meaning l.clients.items;
  still : AllOpen (map g.L.Link.meaning (into_iter_items l.link-iterator));
  len : length l.clients.items + into_iter_len l.link-iterator ≡ length l.fn.links.items;
  room : length l.clients.items + into_iter_len l.link-iterator ≤ vec_capacity l.clients;
  left : into_iter_len l.link-iterator ≡ length (into_iter_items l.link-iterator);
}
