use Rattle.verilog_out.proofs.Samples.{counter_text, operators_text, words_text, alone_text}
use Rattle.verilog_out.proofs.laws.prints_the_samples.Goals as goal

pub returns-clause-counter : goal.returns-clause-counter
returns-clause-counter c = counter_text

pub returns-clause-operators : goal.returns-clause-operators
returns-clause-operators c = operators_text

pub returns-clause-words : goal.returns-clause-words
returns-clause-words c = words_text

pub returns-clause-alone : goal.returns-clause-alone
returns-clause-alone c = alone_text
