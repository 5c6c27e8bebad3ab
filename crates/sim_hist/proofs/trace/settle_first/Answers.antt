use Rattle.std.proofs.Common.{sym, ◌∙◌}
use Rattle.sim_hist.proofs.Running.{first_registers}
use Rattle.sim_hist.proofs.trace.settle_first.Goals as goal

pub settle_in-requires-clause-then : goal.settle_in-requires-clause-then
settle_in-requires-clause-then c = c.requires.starts ∙ sym (first_registers c.args.simulator.now.net c.args.stim.now)
