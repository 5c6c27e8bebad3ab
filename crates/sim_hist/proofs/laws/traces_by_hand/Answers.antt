use Rattle.sim_hist.proofs.Samples.{traces}
use Rattle.sim_hist.proofs.laws.traces_by_hand.Goals as goal

pub returns : goal.returns
returns c = traces
