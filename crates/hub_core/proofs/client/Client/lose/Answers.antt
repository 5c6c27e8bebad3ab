use Rattle.hub_core.proofs.Placing.{place_lost, fits_sent}
use Rattle.std.proofs.Common.{ap}
use Rattle.hub_core.proofs.client.Client.lose.Goals as goal

pub returns-clause-keeps : goal.returns-clause-keeps
returns-clause-keeps g c = λ start asked made more was.
    fits_sent start _ _ c.args.self.now c.lose.new.self asked made _ (ap (λ m. m.received) c.lose.ensures.link) (λ d. c.lose.ensures.keeps start made more d) was

pub returns-clause-place : goal.returns-clause-place
returns-clause-place g c = λ was. place_lost _ _ _ _ c.lose.ensures.over was.2
