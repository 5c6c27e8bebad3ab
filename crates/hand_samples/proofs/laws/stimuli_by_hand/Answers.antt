use Rattle.hand_samples.proofs.Stimuli.{stimuli_are_read, stimuli_are_refused}
use Rattle.hand_samples.proofs.laws.stimuli_by_hand.Goals as goal

pub returns-clause-read : goal.returns-clause-read
returns-clause-read c = stimuli_are_read

pub returns-clause-refused : goal.returns-clause-refused
returns-clause-refused c = stimuli_are_refused
