use Rattle.check_laws.proofs.Typed.{typed_are_not_refused}
use Rattle.check_laws.proofs.laws.typed_are_not_refused.Goals as goal

pub returns : goal.returns
returns c = typed_are_not_refused
