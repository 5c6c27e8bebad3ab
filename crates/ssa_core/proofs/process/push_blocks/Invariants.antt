use Rattle.std.proofs.Common.{◌≡◌, ◌++◌, Some, map, take}
use Rattle.design_core.specs.DesignView.{design_of}
use Rattle.design_exec.specs.Processes.{process, signals_in, blocks_in}
use Rattle.ssa_core.specs.Processes.{process_at}
use Rattle.ssa_core.proofs.process.push_blocks.Given as goal

abbrev pub invariant-loop-block : goal.invariant-loop-block
invariant-loop-block l =
    map (process_at (design_of l.design)) l.keys.items
    ≡ map (process_at (design_of l.design)) l.initial.keys.items ++ map (λ b. Some b) (map (process l.number (signals_in (design_of l.design) l.instance.variant)) (take l.block (blocks_in (design_of l.design) l.instance.variant)))
