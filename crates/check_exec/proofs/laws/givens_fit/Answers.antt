use Rattle.check_exec.proofs.Givens.{givens_fit}
use Rattle.check_exec.proofs.laws.givens_fit.Goals as goal

pub returns : goal.returns
returns c = givens_fit
