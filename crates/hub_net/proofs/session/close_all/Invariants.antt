use Rattle.std.proofs.Common.{◌≡◌, ◌++◌, map, take, drop}
use Rattle.link_edge.specs.Links.{after_close}
use Rattle.hub_net.proofs.session.close_all.Given as goal

abbrev pub invariant-loop-link : goal.invariant-loop-link
invariant-loop-link g l =
    map g.L.Link.meaning l.links ≡ map after_close (take l.link-index (map g.L.Link.meaning l.initial.links)) ++ drop l.link-index (map g.L.Link.meaning l.initial.links)
