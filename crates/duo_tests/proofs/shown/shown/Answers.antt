use Rattle.std.proofs.Common.{[], nat_eq, ap, ◌∙◌}
use Rattle.std.specs.List.{list_any}
use Rattle.machine_core.specs.Machine.{threads_of}
use Rattle.dbg_core.specs.World.{world_of}
use Rattle.duo_tests.proofs.Threads.{still_among}
use Rattle.duo_tests.proofs.shown.shown.Goals as goal

-- asking for the threads moved neither the place nor the world
pub values-requires : goal.values-requires
values-requires g c =
    let e = c.in_ok-threads.ensures in
    let place = ap (λ m. m.place) (e.state []) in
    still_among 0 c.in_ok-threads.threads.items (threads_of (world_of c.args.session.now.table (g.T.Trace.samples c.args.session.now.trace)) c.args.session.now.place)
    (threads_of (world_of c.threads.new.self.table (g.T.Trace.samples c.threads.new.self.trace)) c.threads.new.self.place) c.is_among.result e.threads (rw (e.table, e.samples, place))
    (c.is_among.ensures ∙ ap (λ l. list_any (nat_eq 0) l) c.deref.ensures.value) c.if-not-is_among.false
