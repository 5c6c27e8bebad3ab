use Rattle.std.proofs.Common.{◌≡◌, false, take}
use Rattle.std.specs.List.{list_any}
use Rattle.watch.specs.Changing.{watch_stops}
use Rattle.watch.proofs.watch_list.WatchList.changes.Given as goal

abbrev pub invariant-loop-watched : goal.invariant-loop-watched
invariant-loop-watched g l =
    (g.T.Trace.samples l.trace ≡ g.T.Trace.samples l.fn.trace)
    × (list_any (watch_stops l.table (g.T.Trace.samples l.fn.trace) l.cycle l.slot) (take l.watched-index l.self.watched.items) ≡ false)
