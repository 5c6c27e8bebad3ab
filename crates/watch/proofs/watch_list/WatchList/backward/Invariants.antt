use Rattle.std.proofs.Common.{◌≡◌, ◌-◌, ◌≤◌, find}
use Rattle.site_core.specs.Positions.{down_from}
use Rattle.watch.specs.Changing.{position_changes}
use Rattle.watch.proofs.watch_list.WatchList.backward.Given as goal

abbrev pub invariant-loop-p : goal.invariant-loop-p
invariant-loop-p g l =
    (g.T.Trace.samples l.trace ≡ g.T.Trace.samples l.fn.trace)
    × (find (position_changes l.table (g.T.Trace.samples l.fn.trace) l.self.watched.items) (down_from l.below (l.below - l.lowest))
    ≡ find (position_changes l.table (g.T.Trace.samples l.fn.trace) l.self.watched.items) (down_from l.p (l.p - l.lowest)))
    × (l.p ≤ l.below)

abbrev pub decreases-loop-p : goal.decreases-loop-p
decreases-loop-p g l = l.p - l.lowest
