use Rattle.machine_core.proofs.Readers.{some_reader, one_reading}
use Rattle.machine_core.proofs.laws.texts_have_one_reading.Goals as goal

pub returns : goal.returns
returns c = record { some = some_reader; one = one_reading }
