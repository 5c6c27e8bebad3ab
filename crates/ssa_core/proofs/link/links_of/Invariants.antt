use Rattle.std.proofs.Common.{◌≡◌, ◌++◌, [], map, take}
use Rattle.std.specs.List.{enumerate_from, flat_map}
use Rattle.design_core.specs.DesignView.{design_of}
use Rattle.design_exec.specs.Processes.{links_at}
use Rattle.ssa_core.specs.Links.{link_as}
use Rattle.ssa_core.proofs.link.links_of.Given as goal

abbrev pub invariant-loop-number : goal.invariant-loop-number
invariant-loop-number l = map link_as l.links.items ≡ [] ++ flat_map (links_at (design_of l.design)) (enumerate_from 0 (take l.number l.design.instances))
