use Rattle.std.proofs.Common.{rules}
use Rattle.sim_core.proofs.Edges.{new_kept}
use Rattle.sim_core.proofs.simulator.Simulator.new.Goals as goal

pub invariant_of-result : goal.invariant_of-result
invariant_of-result c = new_kept _ _ _ _ _ c.count.ensures.net c.in_ok-sources.ensures c.in_ok-registers.ensures (search rules) (search rules)
