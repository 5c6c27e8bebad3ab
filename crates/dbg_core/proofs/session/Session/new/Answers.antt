use Rattle.dbg_core.proofs.session.Session.new.Goals as goal

pub invariant_of-result-clause-own : goal.invariant_of-result-clause-own
invariant_of-result-clause-own g c = ∣ c.new.ensures.own c.args.table ∣₁

pub invariant_of-result-clause-own_watches : goal.invariant_of-result-clause-own_watches
invariant_of-result-clause-own_watches g c = ∣ c.new-2.ensures.own c.args.table ∣₁
