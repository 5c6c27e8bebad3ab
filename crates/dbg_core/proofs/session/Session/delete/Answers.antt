use Rattle.dbg_core.proofs.Own.{own_kept}
use Rattle.dbg_core.proofs.session.Session.delete.Goals as goal

pub invariant_of-self-clause-own : goal.invariant_of-self-clause-own
invariant_of-self-clause-own g c = own_kept c.args.self.now.table c.args.self.now.schedule c.disarm.new.self (c.disarm.ensures.own c.args.self.now.table) c.args.self.now.own
