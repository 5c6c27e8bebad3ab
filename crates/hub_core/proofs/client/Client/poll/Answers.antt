use Rattle.std.proofs.Common.{rules}
use Rattle.link_pump.proofs.Pumping.{heard_as}
use Rattle.hub_core.proofs.Placing.{fits_read, free_fed}
use Rattle.hub_core.proofs.client.Client.poll.Goals as goal

pub returns-clause-keeps : goal.returns-clause-keeps
returns-clause-keeps g c = λ start asked made was.
    fits_read start _ _ c.args.self.now c.poll.new.self asked made _ (c.requires.place.0 (free_fed c.args.self.now.outlet.over (search rules)))
    (heard_as _ _ _ c.poll.ensures.heard c.poll.ensures.silent) (λ d. c.poll.ensures.keeps start made d) was
