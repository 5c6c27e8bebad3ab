use Rattle.std.proofs.Common.{length, ◌∙◌, ap}
use Rattle.hub_core.proofs.Writing.{restored}
use Rattle.hub_core.proofs.rounds.round_all.Goals as goal

pub returns-clause-keeps : goal.returns-clause-keeps
returns-clause-keeps g c = λ read reader first starts was.
    let long = c.round.ensures.len.0 ∙ ap length c.deref_mut.ensures.value in
    rw (restored c.args.clients.now.len c.round.new.clients c.args.clients.now.items c.args.clients.now.ok.0 long)
    (c.round.ensures.keeps read reader first starts (rw c.deref_mut.ensures.value was))
