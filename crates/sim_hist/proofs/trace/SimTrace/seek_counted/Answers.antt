use Rattle.std.proofs.Common.{length, subst, rules}
use Rattle.sim_hist.specs.Run.{Traced}
use Rattle.sim_hist.specs.Kept.{IsSoughtIn}
use Rattle.sim_hist.proofs.Costs.{none_sought, some_sought}
use Rattle.sim_hist.proofs.trace.SimTrace.seek_counted.Goals as goal

pub returns-then-t-rows-clause-cost : goal.returns-then-t-rows-clause-cost
returns-then-t-rows-clause-cost g c = none_sought _ _ _ _ _

pub returns-then-eq-clause-cost : goal.returns-then-eq-clause-cost
returns-then-eq-clause-cost g c = none_sought _ _ _ _ _

pub returns-clause-cost : goal.returns-clause-cost
returns-clause-cost g c =
    subst (λ (s : Traced). IsSoughtIn (length s.stim.rows) s.cursor c.args.t s.settles c.walk.new.simulator.settles c.args.steps.now c.walk.new.steps) c.self.view_is
    (some_sought _ c.self.inside.cursor c.args.t c.begin-from.result _ _ _ _ _ (search rules) c.begin-from.ensures.order c.begin-from.ensures.settles c.walk.ensures.settles c.walk.ensures.steps (search rules) c.begin-from.ensures.back c.begin-from.ensures.ahead)
