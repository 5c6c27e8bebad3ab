use Rattle.check_laws.proofs.Named.{known_are_not_refused}
use Rattle.check_laws.proofs.laws.known_names_are_not_refused.Goals as goal

pub returns : goal.returns
returns c = known_are_not_refused
