use Rattle.std.proofs.Common.{◌≡◌, map, take}
use Rattle.machine_core.specs.Matching.{Watch, watches_at}
use Rattle.watch.specs.Watching.{watches}
use Rattle.dbg_core.specs.World.{world_of}
use Rattle.dbg_core.proofs.notices.watches_at.Given as goal

abbrev pub invariant-loop-i : goal.invariant-loop-i
invariant-loop-i g l =
    (g.T.Trace.samples l.trace ≡ g.T.Trace.samples l.fn.trace)
    × (l.numbers.items ≡ take l.i (map (λ (watch : Watch). watch.number) (watches_at (world_of l.table (g.T.Trace.samples l.fn.trace)) l.cycle l.slot (watches l.watch))))
