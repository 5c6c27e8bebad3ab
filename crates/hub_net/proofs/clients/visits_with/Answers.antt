use Rattle.hub_net.specs.Clients.{told_from}
use Rattle.hub_net.proofs.clients.visits_with.Goals as goal

pub returns-in-None : goal.returns-in-None
unfolding told_from
returns-in-None g c = rw c.in-None.is c.visits_of-in-None.ensures
