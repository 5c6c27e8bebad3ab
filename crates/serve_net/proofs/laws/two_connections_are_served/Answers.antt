use Rattle.serve_net.proofs.Sampled.{two_connections_are_served}
use Rattle.serve_net.proofs.laws.two_connections_are_served.Goals as goal

pub returns : goal.returns
returns c = two_connections_are_served
