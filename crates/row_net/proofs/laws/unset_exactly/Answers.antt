use Rattle.row_net.proofs.Exact.{unset_exactly}
use Rattle.row_net.proofs.laws.unset_exactly.Goals as goal

pub returns : goal.returns
returns c = unset_exactly
