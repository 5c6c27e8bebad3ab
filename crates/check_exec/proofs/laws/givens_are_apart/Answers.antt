use Rattle.check_exec.proofs.Givens.{givens_are_apart}
use Rattle.check_exec.proofs.laws.givens_are_apart.Goals as goal

pub returns : goal.returns
returns c = givens_are_apart
