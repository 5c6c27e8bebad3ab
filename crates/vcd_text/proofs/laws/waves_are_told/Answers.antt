use Rattle.vcd_text.proofs.Writing.{waves_are_dumps}
use Rattle.vcd_text.proofs.Sampling as sampling
use Rattle.vcd_text.proofs.laws.waves_are_told.Goals as goal

pub returns-clause-written : goal.returns-clause-written
returns-clause-written c = waves_are_dumps

pub returns-clause-told : goal.returns-clause-told
returns-clause-told c = sampling.waves_are_told
