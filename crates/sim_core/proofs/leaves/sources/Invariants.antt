use Rattle.std.proofs.Common.{◌≡◌, ◌++◌, drop, map}
use Rattle.sim_core.specs.Leaves.{numbers_from, sources_of}
use Rattle.net_core.specs.Nets.{next_node}
use Rattle.sim_core.proofs.leaves.sources.Given as goal

-- those so far, and those of what is left
abbrev pub invariant-loop-id : goal.invariant-loop-id
invariant-loop-id l = l.found.items ++ map (next_node l.net.nexts) (numbers_from l.id (drop l.id l.net.nodes)) ≡ sources_of l.net
