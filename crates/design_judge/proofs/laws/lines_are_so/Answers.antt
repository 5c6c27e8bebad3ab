use Rattle.design_judge.proofs.SampleLines.{lines}
use Rattle.design_judge.proofs.laws.lines_are_so.Goals as goal

pub returns : goal.returns
returns c = lines
