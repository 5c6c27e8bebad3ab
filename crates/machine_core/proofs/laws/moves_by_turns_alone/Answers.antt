use Rattle.machine_core.proofs.Keeps.{moves_by_turns_alone}
use Rattle.machine_core.proofs.laws.moves_by_turns_alone.Goals as goal

pub returns : goal.returns
returns c = moves_by_turns_alone
