use Rattle.vcd_write.proofs.Samples.{counter_text, alone_text, codes_text}
use Rattle.vcd_write.proofs.laws.tells_the_samples.Goals as goal

pub returns-clause-counter : goal.returns-clause-counter
returns-clause-counter c = counter_text

pub returns-clause-alone : goal.returns-clause-alone
returns-clause-alone c = alone_text

pub returns-clause-codes : goal.returns-clause-codes
returns-clause-codes c = codes_text
