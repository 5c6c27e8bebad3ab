use Rattle.std.proofs.Common.{◌≡◌, Some, map, take}
use Rattle.std.specs.List.{enumerate_from, flat_map}
use Rattle.design_core.specs.DesignView.{design_of}
use Rattle.design_exec.specs.Processes.{processes_at}
use Rattle.ssa_core.specs.Processes.{process_at}
use Rattle.ssa_core.proofs.process.process_keys.Given as goal

abbrev pub invariant-loop-number : goal.invariant-loop-number
invariant-loop-number l = map (process_at (design_of l.design)) l.keys.items ≡ map (λ b. Some b) (flat_map (processes_at (design_of l.design)) (enumerate_from 0 (take l.number l.design.instances)))
