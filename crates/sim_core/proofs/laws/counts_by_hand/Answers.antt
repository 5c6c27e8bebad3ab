use Rattle.sim_core.proofs.Turns.{counts}
use Rattle.sim_core.proofs.laws.counts_by_hand.Goals as goal

pub returns : goal.returns
returns c = counts
