use Rattle.std.proofs.Common.{◌≡◌, ◌++◌, map, take}
use Rattle.design_core.specs.View.{conn_of}
use Rattle.design_exec.specs.Processes.{conn_link}
use Rattle.ssa_core.specs.Links.{link_as}
use Rattle.ssa_core.proofs.link.push_conns.Given as goal

abbrev pub invariant-loop-conn : goal.invariant-loop-conn
invariant-loop-conn l = map link_as l.links.items ≡ map link_as l.initial.links.items ++ map (conn_link l.parent l.child) (map conn_of (take l.conn-index l.conns))
