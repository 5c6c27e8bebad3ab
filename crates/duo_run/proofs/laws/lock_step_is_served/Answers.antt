use Rattle.duo_run.proofs.Sampled.{lock_step_is_served}
use Rattle.duo_run.proofs.laws.lock_step_is_served.Goals as goal

pub returns : goal.returns
returns c = lock_step_is_served
