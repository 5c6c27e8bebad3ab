use Rattle.check_exec.proofs.Latches.{no_latch_is_left}
use Rattle.check_exec.proofs.laws.no_latch_is_left.Goals as goal

pub returns : goal.returns
returns c = no_latch_is_left
