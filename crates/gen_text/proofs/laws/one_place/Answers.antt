use Rattle.gen_tree.specs.Places.{IsSource}
use Rattle.gen_text.proofs.Law as law
use Rattle.gen_text.proofs.laws.one_place.Goals as goal

pub returns : goal.returns
returns c = λ tokens left other a b. law.one_fault IsSource 64 tokens left other a b
