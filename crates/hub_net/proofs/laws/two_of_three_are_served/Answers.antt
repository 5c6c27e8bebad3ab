use Rattle.hub_net.proofs.Sampled.{two_of_three_are_served}
use Rattle.hub_net.proofs.laws.two_of_three_are_served.Goals as goal

pub returns : goal.returns
returns c = two_of_three_are_served
