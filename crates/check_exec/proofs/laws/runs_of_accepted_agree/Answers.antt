use Rattle.check_exec.proofs.Ready.{runs_of_accepted_agree}
use Rattle.check_exec.proofs.laws.runs_of_accepted_agree.Goals as goal

pub returns : goal.returns
returns c = runs_of_accepted_agree
