use Rattle.slot_sched.proofs.schedule.Schedule.slot_stops.Goals as goal

pub any_stops-requires-clause-ready : goal.any_stops-requires-clause-ready
any_stops-requires-clause-ready g c = c.waiting.ensures.ready c.args.table.now (g.T.Trace.samples c.args.trace.now) c.requires.ready
