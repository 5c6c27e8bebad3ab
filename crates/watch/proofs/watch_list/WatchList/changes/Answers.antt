use Rattle.std.proofs.Common.{rules}
use Rattle.watch.proofs.Ready.{ready_at}
use Rattle.watch.proofs.watch_list.WatchList.changes.Goals as goal

pub matches-requires-clause-ready : goal.matches-requires-clause-ready
matches-requires-clause-ready g c =
    ready_at c.args.table.now (g.T.Trace.samples c.args.trace.now) (g.T.Trace.samples c.loop-watched.trace) c.args.self.now.watched.items c.deref-watched-items.result.now c.loop-watched.watched-index c.watched-item.result
    c.requires.ready.each c.loop-watched.invariant.0 c.deref-watched-items.ensures.value (search rules) c.watched-item.is
