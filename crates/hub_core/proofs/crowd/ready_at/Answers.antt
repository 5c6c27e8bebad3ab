use Rattle.std.proofs.Common.{◌∙◌}
use Rattle.hub_core.proofs.Crowding.{kept_at, usable_at, usable_set}
use Rattle.hub_core.proofs.crowd.ready_at.Goals as goal

pub returns-clause-usable : goal.returns-clause-usable
returns-clause-usable g c =
    let at = usable_at g.L.Link.meaning c.args.clients.now c.args.k c.index-clients-k.result c.requires.within c.requires.usable in
    usable_set g.L.Link.meaning c.args.clients.now c.args.k c.ready.new.self c.requires.within c.requires.usable (c.ready.ensures.place at.0) (c.ready.ensures.shut ∙ at.1)

pub returns-clause-keeps : goal.returns-clause-keeps
returns-clause-keeps g c = λ starts asked made was.
    kept_at g.L.Link.meaning asked made starts c.args.clients.now c.args.k c.index-clients-k.result c.ready.new.self c.requires.within was c.ready.ensures.keeps
