use Rattle.machine_core.proofs.Turns.{turns_by_search}
use Rattle.machine_core.proofs.laws.turns_by_search.Goals as goal

pub returns : goal.returns
returns c = turns_by_search
