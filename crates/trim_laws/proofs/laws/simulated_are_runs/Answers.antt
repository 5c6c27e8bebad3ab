use Rattle.trim_laws.proofs.Simulated.{simulated_are_runs}
use Rattle.trim_laws.proofs.laws.simulated_are_runs.Goals as goal

pub returns : goal.returns
returns c = simulated_are_runs
