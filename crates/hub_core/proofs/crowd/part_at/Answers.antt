use Rattle.std.proofs.Common.{◌∙◌}
use Rattle.hub_core.proofs.Crowding.{kept_at, usable_at, usable_set}
use Rattle.hub_core.proofs.crowd.part_at.Goals as goal

pub returns-then-not-here-clause-usable : goal.returns-then-not-here-clause-usable
returns-then-not-here-clause-usable g c =
    let at = usable_at g.L.Link.meaning c.args.clients.now c.args.k c.index-clients-k.result c.requires.within c.requires.usable in
    usable_set g.L.Link.meaning c.args.clients.now c.args.k c.part.new.self c.requires.within c.requires.usable (c.part.ensures.place at.0) (c.part.ensures.shut ∙ at.1)

pub returns-then-not-here-clause-keeps : goal.returns-then-not-here-clause-keeps
returns-then-not-here-clause-keeps g c = λ starts asked made was.
    kept_at g.L.Link.meaning asked made starts c.args.clients.now c.args.k c.index-clients-k.result c.part.new.self c.requires.within was c.part.ensures.keeps
