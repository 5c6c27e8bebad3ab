use Rattle.name_laws.proofs.Designs.{names_are_texts}
use Rattle.name_laws.proofs.laws.names_are_texts.Goals as goal

pub returns : goal.returns
returns c = names_are_texts
