use Rattle.std.proofs.Common.{sym, ap, ◌∙◌}
use Rattle.machine_core.specs.Journal.{notices_of}
use Rattle.dbg_core.specs.World.{world_of}
use Rattle.dbg_core.proofs.notices.notice_of.Goals as goal

pub returns-in_ok-notice-in-Stopped-clause-lines : goal.returns-in_ok-notice-in-Stopped-clause-lines
returns-in_ok-notice-in-Stopped-clause-lines g c = λ m same.
    c.in_ok-notice-in-Stopped.ensures.lines m same ∙ ap (notices_of (world_of c.args.table.now (g.T.Trace.samples c.args.trace.now)) m) (sym c.in-Stopped.is)
