use Rattle.machine_core.proofs.Ends.{batches_end}
use Rattle.machine_core.proofs.laws.batches_end.Goals as goal

pub returns : goal.returns
returns c = batches_end
