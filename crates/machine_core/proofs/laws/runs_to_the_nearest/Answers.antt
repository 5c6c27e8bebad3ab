use Rattle.machine_core.proofs.Nearest.{runs_to_the_nearest}
use Rattle.machine_core.proofs.laws.runs_to_the_nearest.Goals as goal

pub returns : goal.returns
returns c = runs_to_the_nearest
