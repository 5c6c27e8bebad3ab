use Rattle.gen_text.proofs.Law as law
use Rattle.gen_text.proofs.laws.one_spelling.Goals as goal

pub returns : goal.returns
returns c = λ tokens first second a b. law.one_tree first second tokens a b
