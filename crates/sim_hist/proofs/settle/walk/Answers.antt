use Rattle.std.proofs.Common.{◌+◌, sym, ap, ◌∙◌}
use Rattle.net_core.specs.Nets.{NetParts}
use Rattle.sim_hist.specs.Run.{registers_in}
use Rattle.sim_hist.proofs.Running.{edge_registers}
use Rattle.sim_hist.proofs.settle.walk.Goals as goal

pub settle_in-requires-in-loop-at-clause-then : goal.settle_in-requires-in-loop-at-clause-then
settle_in-requires-in-loop-at-clause-then g c =
    let moved = edge_registers c.args.stim.now c.loop-at.at c.loop-at.simulator c.edge.new.self c.loop-at.invariant.stands c.edge.ensures in
    moved.1.1 ∙ ap (λ (n : NetParts). registers_in n c.args.stim.now (c.loop-at.at + 1)) (sym moved.0)
