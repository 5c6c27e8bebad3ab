use Rattle.run_laws.proofs.Prints.{waves_of_run}
use Rattle.run_laws.proofs.laws.sim_tells_the_run.Goals as goal

pub returns : goal.returns
returns c = waves_of_run c.waves_tell_runs.ensures
