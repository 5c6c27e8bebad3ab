use Rattle.machine_core.proofs.Keeps.{refused_change_nothing}
use Rattle.machine_core.proofs.laws.refused_requests_change_nothing.Goals as goal

pub returns : goal.returns
returns c = refused_change_nothing
