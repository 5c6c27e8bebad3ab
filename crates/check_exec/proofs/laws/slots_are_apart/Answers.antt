use Rattle.check_exec.proofs.Slots.{slots_are_apart}
use Rattle.check_exec.proofs.laws.slots_are_apart.Goals as goal

pub returns : goal.returns
returns c = slots_are_apart
