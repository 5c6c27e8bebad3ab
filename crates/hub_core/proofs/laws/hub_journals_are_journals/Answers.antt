use Rattle.hub_core.proofs.Journaling.{are_journals}
use Rattle.hub_core.proofs.laws.hub_journals_are_journals.Goals as goal

pub returns : goal.returns
returns c = are_journals
