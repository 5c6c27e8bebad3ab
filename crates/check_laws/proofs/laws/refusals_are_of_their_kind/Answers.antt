use Rattle.check_laws.proofs.Verdicts.{verdicts_are_of_their_kind}
use Rattle.check_laws.proofs.laws.refusals_are_of_their_kind.Goals as goal

pub returns : goal.returns
returns c = verdicts_are_of_their_kind
