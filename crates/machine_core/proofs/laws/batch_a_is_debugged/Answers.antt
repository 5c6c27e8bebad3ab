use Rattle.std.proofs.Common.{refl}
use Rattle.machine_core.specs.Machine.{turn_of, answer_of}
use Rattle.machine_core.proofs.laws.batch_a_is_debugged.Goals as goal

pub returns : goal.returns
unfolding turn_of answer_of
returns c = refl
