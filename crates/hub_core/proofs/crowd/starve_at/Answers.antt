use Rattle.std.proofs.Common.{◌∷◌, [], ◌∙◌}
use Rattle.hub_core.proofs.Crowding.{starved_at, is_free, usable_at, usable_set}
use Rattle.hub_core.proofs.crowd.starve_at.Goals as goal

pub starve-requires-clause-free : goal.starve-requires-clause-free
starve-requires-clause-free g c κs within = is_free g.L.Link.meaning c.args.clients.now c.args.k c.index-clients-k.result c.requires.open

pub starve-requires-clause-place : goal.starve-requires-clause-place
starve-requires-clause-place g c κs within = (usable_at g.L.Link.meaning c.args.clients.now c.args.k c.index-clients-k.result c.requires.within c.requires.usable).0

pub returns-clause-usable : goal.returns-clause-usable
returns-clause-usable g c =
    let at = usable_at g.L.Link.meaning c.args.clients.now c.args.k c.index-clients-k.result c.requires.within c.requires.usable in
    usable_set g.L.Link.meaning c.args.clients.now c.args.k c.starve.new.self c.requires.within c.requires.usable c.starve.ensures.place (c.starve.ensures.shut ∙ at.1)

pub returns-clause-keeps : goal.returns-clause-keeps
returns-clause-keeps g c = λ starts asked made was.
    starved_at g.L.Link.meaning asked made starts c.args.clients.now c.args.k c.index-clients-k.result c.starve.new.self (c.args.text ∷ []) c.requires.within was c.starve.ensures.keeps
