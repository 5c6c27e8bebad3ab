use Rattle.std.proofs.Common.{◌≡◌, ◌++◌, [], map, take}
use Rattle.std.specs.List.{enumerate_from, flat_map}
use Rattle.design_core.specs.DesignView.{design_of}
use Rattle.design_exec.specs.Processes.{givens_at}
use Rattle.ssa_nodes.specs.Givens.{given_as}
use Rattle.ssa_nodes.proofs.given.givens_of.Given as goal

abbrev pub invariant-loop-number : goal.invariant-loop-number
invariant-loop-number l = map given_as l.list.items ≡ [] ++ flat_map (givens_at (design_of l.design)) (enumerate_from 0 (take l.number l.design.instances))
