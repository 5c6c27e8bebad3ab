use Rattle.std.proofs.Common.{length, ◌∙◌, ap}
use Rattle.hub_core.proofs.Writing.{restored}
use Rattle.hub_core.proofs.crowd.part_gone.Goals as goal

pub returns-clause-keeps : goal.returns-clause-keeps
returns-clause-keeps g c = λ starts asked made was.
    let long = c.part_all.ensures.len ∙ ap length c.deref_mut.ensures.value in
    rw (restored c.args.clients.now.len c.part_all.new.clients c.args.clients.now.items c.args.clients.now.ok.0 long)
    (c.part_all.ensures.keeps starts asked made (rw c.deref_mut.ensures.value was))
