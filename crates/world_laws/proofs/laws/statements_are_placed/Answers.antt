use Rattle.world_laws.proofs.SitesOf.{ordered, at_slot}
use Rattle.world_laws.proofs.laws.statements_are_placed.Goals as goal

pub returns : goal.returns
returns c = λ d kept s among. record { among = (ordered d kept s among).among; at = at_slot d kept s among }
