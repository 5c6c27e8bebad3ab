use Rattle.std.proofs.Common.{rules, refl}
use Rattle.hub_core.proofs.Placing.{fits_fresh}
use Rattle.hub_core.proofs.client.Client.new.Goals as goal

pub returns-clause-fits : goal.returns-clause-fits
returns-clause-fits g c = c.make_room.ensures.keeps _ (fits_fresh _ _ (search rules) (search rules) refl (search rules))
