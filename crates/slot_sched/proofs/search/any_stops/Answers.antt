use Rattle.std.proofs.Common.{rules, refl}
use Rattle.slot_sched.proofs.Ready.{ready_at}
use Rattle.slot_sched.proofs.search.any_stops.Goals as goal

pub stops-requires-clause-ready : goal.stops-requires-clause-ready
stops-requires-clause-ready g c =
    ready_at c.args.table.now (g.T.Trace.samples c.args.trace.now) c.args.armed.now c.args.armed.now c.loop-one.one-index c.one-item.result c.requires.ready refl (search rules)
    c.one-item.is
