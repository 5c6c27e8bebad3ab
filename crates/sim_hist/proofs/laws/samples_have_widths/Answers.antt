use Rattle.sim_hist.proofs.Samples.{have_widths}
use Rattle.sim_hist.proofs.laws.samples_have_widths.Goals as goal

pub returns : goal.returns
returns c = have_widths
