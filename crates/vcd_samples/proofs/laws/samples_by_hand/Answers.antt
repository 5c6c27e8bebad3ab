use Rattle.vcd_samples.proofs.Examples.{is_read}
use Rattle.vcd_samples.proofs.laws.samples_by_hand.Goals as goal

pub returns : goal.returns
returns c = is_read
