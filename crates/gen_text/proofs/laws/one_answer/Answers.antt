use Rattle.gen_text.proofs.Answers as answers
use Rattle.gen_text.proofs.laws.one_answer.Goals as goal

pub returns : goal.returns
returns c = answers.one_answer
