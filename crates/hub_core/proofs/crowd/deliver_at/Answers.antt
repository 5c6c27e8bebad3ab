use Rattle.std.proofs.Common.{◌∷◌, [], ◌≤◌, length, arith}
use Rattle.hub_core.proofs.Crowding.{told_at, told_none, usable_at, usable_set}
use Rattle.hub_core.proofs.crowd.deliver_at.Goals as goal

pub returns-then-k-clients-clause-keeps : goal.returns-then-k-clients-clause-keeps
returns-then-k-clients-clause-keeps g c = λ starts asked made was.
    told_at g.L.Link.meaning asked made (λ j. c.args.text ∷ []) starts c.args.clients.now c.args.k c.index-clients-k.result c.deliver.new.self (omega arith) was c.deliver.ensures.keeps

pub returns-else-k-clients-clause-keeps : goal.returns-else-k-clients-clause-keeps
returns-else-k-clients-clause-keeps g c = λ starts asked made was.
    let past : length c.args.clients.now ≤ c.args.k = omega arith in
    told_none g.L.Link.meaning asked made (λ j. c.args.text ∷ []) starts c.args.clients.now c.args.k past was

pub deliver-requires-clause-usable : goal.deliver-requires-clause-usable
deliver-requires-clause-usable g c κs within = (usable_at g.L.Link.meaning c.args.clients.now c.args.k c.index-clients-k.result (omega arith) c.requires.usable).1

pub returns-then-k-clients-clause-usable : goal.returns-then-k-clients-clause-usable
returns-then-k-clients-clause-usable g c =
    let at = usable_at g.L.Link.meaning c.args.clients.now c.args.k c.index-clients-k.result (omega arith) c.requires.usable in
    usable_set g.L.Link.meaning c.args.clients.now c.args.k c.deliver.new.self (omega arith) c.requires.usable (c.deliver.ensures.place at.0) c.deliver.ensures.shut
