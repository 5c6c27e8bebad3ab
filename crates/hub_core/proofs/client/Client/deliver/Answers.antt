use Rattle.hub_core.proofs.Placing.{place_on, fits_sent}
use Rattle.hub_core.proofs.client.Client.deliver.Goals as goal

pub returns-clause-keeps : goal.returns-clause-keeps
returns-clause-keeps g c = λ start asked made was.
    fits_sent start _ _ c.args.self.now c.deliver.new.self asked made _ c.deliver.ensures.received (λ d. c.deliver.ensures.keeps start made d) was

pub returns-clause-place : goal.returns-clause-place
returns-clause-place g c = λ was. place_on _ _ _ _ _ c.deliver.ensures.over was
