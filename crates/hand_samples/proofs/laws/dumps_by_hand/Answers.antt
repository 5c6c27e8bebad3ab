use Rattle.hand_samples.proofs.Dumps.{dump_is_read, dumps_are_refused}
use Rattle.hand_samples.proofs.laws.dumps_by_hand.Goals as goal

pub returns-clause-read : goal.returns-clause-read
returns-clause-read c = dump_is_read

pub returns-clause-refused : goal.returns-clause-refused
returns-clause-refused c = dumps_are_refused
