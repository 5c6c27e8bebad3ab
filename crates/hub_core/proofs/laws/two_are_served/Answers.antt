use Rattle.hub_core.proofs.Sampled.{two_are_served}
use Rattle.hub_core.proofs.laws.two_are_served.Goals as goal

pub returns : goal.returns
returns c = two_are_served
