use Rattle.machine_core.proofs.Joined.{searches_join}
use Rattle.machine_core.proofs.laws.searches_join.Goals as goal

pub returns : goal.returns
returns c = searches_join
