use Rattle.dbg_core.proofs.Own.{watches_kept}
use Rattle.dbg_core.proofs.session.Session.unwatch.Goals as goal

pub invariant_of-self-clause-own_watches : goal.invariant_of-self-clause-own_watches
invariant_of-self-clause-own_watches g c =
    watches_kept c.args.self.now.table c.args.self.now.watch c.disarm.new.self (c.disarm.ensures.own c.args.self.now.table) c.args.self.now.own_watches
