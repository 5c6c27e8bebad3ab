use Rattle.std.proofs.Common.{◌≡◌, ◌-◌, find}
use Rattle.list_core.specs.Lists.{from}
use Rattle.watch.specs.Changing.{position_changes}
use Rattle.watch.proofs.watch_list.WatchList.forward.Given as goal

abbrev pub invariant-loop-p : goal.invariant-loop-p
invariant-loop-p g l =
    (g.T.Trace.samples l.trace ≡ g.T.Trace.samples l.fn.trace)
    × (find (position_changes l.table (g.T.Trace.samples l.fn.trace) l.self.watched.items) (from l.first (l.end - l.first))
    ≡ find (position_changes l.table (g.T.Trace.samples l.fn.trace) l.self.watched.items) (from l.p (l.end - l.p)))
