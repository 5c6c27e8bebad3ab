use Rattle.trim_laws.proofs.Running.{designs_run}
use Rattle.trim_laws.proofs.laws.accepted_designs_run.Goals as goal

pub returns : goal.returns
returns c = designs_run
