use Rattle.std.proofs.Common.{length, subst, sym, ap, ◌∙◌}
use Rattle.sim_hist.specs.Recalled.{AreRecalled}
use Rattle.sim_hist.proofs.Recalling.{none_recalled, have_length}
use Rattle.sim_hist.proofs.trace.SimTrace.new.Goals as goal

pub settle_first-cursor-requires-clause-recalled : goal.settle_first-cursor-requires-clause-recalled
settle_first-cursor-requires-clause-recalled c =
    subst (AreRecalled c.args.simulator.net c.args.stim) (sym c.in_ok-history.ensures)
    (none_recalled c.args.simulator.net c.args.stim _ _ (ap length c.registers.ensures.values ∙ have_length _ _ c.registers.ensures.widths) c.rows.ensures.rows)
