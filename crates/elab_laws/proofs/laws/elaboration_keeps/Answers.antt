use Rattle.elab_laws.proofs.Kept.{elaboration_keeps}
use Rattle.elab_laws.proofs.laws.elaboration_keeps.Goals as goal

pub returns : goal.returns
returns c = elaboration_keeps
