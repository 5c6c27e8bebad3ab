use Rattle.std.proofs.Common.{◌≡◌, ◌+◌, length, filter, take}
use Rattle.watch.specs.Changing.{watch_stops}
use Rattle.watch.proofs.watch_list.WatchList.nth_matching_at.Given as goal

abbrev pub invariant-loop-watched : goal.invariant-loop-watched
invariant-loop-watched g l =
    (g.T.Trace.samples l.trace ≡ g.T.Trace.samples l.fn.trace)
    × (l.i ≡ l.left + length (filter (watch_stops l.table (g.T.Trace.samples l.fn.trace) l.cycle l.slot) (take l.watched-index l.self.watched.items)))
