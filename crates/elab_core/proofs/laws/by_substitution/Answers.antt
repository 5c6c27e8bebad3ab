use Rattle.elab_core.proofs.ReplacingItems.{top_put}
use Rattle.elab_core.proofs.laws.by_substitution.Goals as goal

pub returns : goal.returns
returns c = λ depth modules top rest nest h. top_put depth modules top rest nest h
