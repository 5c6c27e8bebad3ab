use Rattle.check_exec.proofs.Ready.{accepted_is_ready}
use Rattle.check_exec.proofs.laws.accepted_is_ready.Goals as goal

pub returns : goal.returns
returns c = accepted_is_ready
