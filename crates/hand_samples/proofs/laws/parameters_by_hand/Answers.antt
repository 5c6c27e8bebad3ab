use Rattle.hand_samples.proofs.Defaults.{defaults_are_seen}
use Rattle.hand_samples.proofs.laws.parameters_by_hand.Goals as goal

pub returns : goal.returns
returns c = defaults_are_seen
