use Rattle.trace_judge.proofs.SampleLines.{lines}
use Rattle.trace_judge.proofs.laws.lines_are_so.Goals as goal

pub returns : goal.returns
returns c = lines
