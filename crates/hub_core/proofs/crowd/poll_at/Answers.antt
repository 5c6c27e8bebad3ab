use Rattle.link_edge.specs.Links.{message_in}
use Rattle.hub_core.proofs.Crowding.{polled_at, opened_on, usable_at, usable_set}
use Rattle.hub_core.proofs.crowd.poll_at.Goals as goal

pub returns-clause-keeps : goal.returns-clause-keeps
returns-clause-keeps g c = λ starts asked made was.
    polled_at g.L.Link.meaning asked made starts c.args.clients.now c.args.k c.index-clients-k.result c.poll-heard.new.self (message_in c.poll-heard.result) c.requires.within was c.poll-heard.ensures.keeps

pub returns-clause-open : goal.returns-clause-open
returns-clause-open g c = opened_on g.L.Link.meaning c.poll-heard.result c.args.clients.now c.args.k c.poll-heard.new.self c.requires.within c.poll-heard.ensures.open

pub poll-heard-requires-clause-usable : goal.poll-heard-requires-clause-usable
poll-heard-requires-clause-usable g c κs within = (usable_at g.L.Link.meaning c.args.clients.now c.args.k c.index-clients-k.result c.requires.within c.requires.usable).1

pub poll-heard-requires-clause-place : goal.poll-heard-requires-clause-place
poll-heard-requires-clause-place g c κs within = (usable_at g.L.Link.meaning c.args.clients.now c.args.k c.index-clients-k.result c.requires.within c.requires.usable).0

pub returns-clause-usable : goal.returns-clause-usable
returns-clause-usable g c = usable_set g.L.Link.meaning c.args.clients.now c.args.k c.poll-heard.new.self c.requires.within c.requires.usable c.poll-heard.ensures.place c.poll-heard.ensures.shut
