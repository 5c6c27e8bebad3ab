use Rattle.dep_order.proofs.Sound.{accepted_drivers}
use Rattle.dep_order.proofs.laws.accepted_drivers.Goals as goal

pub returns : goal.returns
returns c = accepted_drivers
