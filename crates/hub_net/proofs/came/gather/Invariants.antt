use Rattle.std.proofs.Common.{◌≤◌, length, map, vec_capacity}
use Rattle.hub_net.specs.Came.{Gathers}
use Rattle.hub_net.proofs.came.gather.Given as goal

-- so many times the door was asked, and there is room for what the rest brings
abbrev pub invariant-loop : goal.invariant-loop
invariant-loop g l = record {
  gathers : Gathers l.counter (map g.D.Out.Link.meaning l.links.items) l.came.items (g.D.Door.left l.initial.door) (g.D.Door.left l.door) (g.D.Door.fault_count l.initial.door) (g.D.Door.fault_count l.door);
  few : length l.links.items ≤ l.counter;
  links_room : l.fn.count ≤ vec_capacity l.links;
  came_room : l.fn.count ≤ vec_capacity l.came;
}
