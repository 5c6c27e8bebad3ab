use Rattle.std.proofs.Common.{refl}
use Rattle.machine_core.specs.Machine.{turn_of, answer_of}
use Rattle.machine_core.proofs.laws.watches_are_debugged.Goals as goal

pub returns-clause-wire : goal.returns-clause-wire
unfolding turn_of answer_of
returns-clause-wire c = refl

pub returns-clause-unknown : goal.returns-clause-unknown
unfolding turn_of answer_of
returns-clause-unknown c = refl
