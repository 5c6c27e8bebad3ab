use Rattle.check_exec.proofs.Settling.{cycles_of_accepted_settle}
use Rattle.check_exec.proofs.laws.cycles_of_accepted_settle.Goals as goal

pub returns : goal.returns
returns c = cycles_of_accepted_settle
