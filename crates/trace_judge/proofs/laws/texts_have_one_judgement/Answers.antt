use Rattle.trace_judge.proofs.SampleLines.{one_judgement}
use Rattle.trace_judge.proofs.laws.texts_have_one_judgement.Goals as goal

pub returns : goal.returns
returns c = one_judgement
