use Rattle.cond_lang.proofs.FirstPlace as first_place
use Rattle.cond_lang.proofs.laws.one_answer.Goals as goal

pub returns : goal.returns
returns c = λ text. first_place.one_answer text
