use Rattle.std.proofs.Common.{◌<◌, true, false, Some, Err, length, sym, subst, ap, ◌∙◌}
use Rattle.machine_core.specs.declared.reply.Body.TheVariants as body
use Rattle.machine_core.specs.Positions.{at_place}
use Rattle.machine_core.specs.Arming.{instance_named}
use Rattle.dbg_core.specs.World.{world_of}
use Rattle.dbg_core.specs.Answering.{thread_there, thread_from}
use Rattle.dbg_core.proofs.Threads.{cycle_inside}
use Rattle.dbg_core.proofs.Values.{steps_at, thread_found}
use Rattle.dbg_core.proofs.stops.thread_of.Goals as goal

pub returns-then-not-has_thread-clause-thread : goal.returns-then-not-has_thread-clause-thread
returns-then-not-has_thread-clause-thread g c =
    let parts = c.args.table.now in
    let s = g.T.Trace.samples c.args.trace.now in
    let p = c.in_ok-p.p in
    let inside : c.spot-cycle.result.0 < s.cycles = subst (λ t. t < s.cycles) (sym c.spot-cycle.ensures.cycle) (cycle_inside s.cycles (length parts.slots) p c.in_ok-p.ensures.below) in
    let steps = steps_at parts s p c.in_ok-p.ensures.below (g.T.Trace.samples c.seek.new.self) (g.T.Trace.cursor c.seek.new.self) c.spot-cycle.result.0 c.spot-cycle.result.1 c.in-Some.instance
    c.seek.ensures.kept (c.seek.ensures.within inside).1 c.spot-cycle.ensures.cycle c.spot-cycle.ensures.slot in
    ap (λ a. Err (body.NoStop a)) (c.at_place-then-not-has_thread.ensures ∙ ap (λ z. at_place (world_of parts z) c.args.place) c.seek.ensures.kept)
    ∙ thread_found parts s p c.in_ok-p.ensures.below c.args.place c.in-Some.instance false (c.if-not-has_thread.ensures.value ∙ steps)
    ∙ ap (thread_there (world_of parts s) c.args.place p) c.in-Some.ensures.instance
    ∙ ap (thread_from (world_of parts s) c.args.place (instance_named (world_of parts s) c.args.path.now)) c.in_ok-p.ensures.position

pub returns-clause-thread : goal.returns-clause-thread
returns-clause-thread g c =
    let parts = c.args.table.now in
    let s = g.T.Trace.samples c.args.trace.now in
    let p = c.in_ok-p.p in
    let inside : c.spot-cycle.result.0 < s.cycles = subst (λ t. t < s.cycles) (sym c.spot-cycle.ensures.cycle) (cycle_inside s.cycles (length parts.slots) p c.in_ok-p.ensures.below) in
    let steps = steps_at parts s p c.in_ok-p.ensures.below (g.T.Trace.samples c.seek.new.self) (g.T.Trace.cursor c.seek.new.self) c.spot-cycle.result.0 c.spot-cycle.result.1 c.in-Some.instance
    c.seek.ensures.kept (c.seek.ensures.within inside).1 c.spot-cycle.ensures.cycle c.spot-cycle.ensures.slot in
    thread_found parts s p c.in_ok-p.ensures.below c.args.place c.in-Some.instance true (c.if-not-has_thread.ensures.value ∙ steps)
    ∙ ap (thread_there (world_of parts s) c.args.place p) c.in-Some.ensures.instance
    ∙ ap (thread_from (world_of parts s) c.args.place (instance_named (world_of parts s) c.args.path.now)) c.in_ok-p.ensures.position

pub returns-clause-set : goal.returns-clause-set
returns-clause-set g c =
    let s = g.T.Trace.samples c.args.trace.now in
    let inside : c.spot-cycle.result.0 < s.cycles =
    subst (λ t. t < s.cycles) (sym c.spot-cycle.ensures.cycle) (cycle_inside s.cycles (length c.args.table.now.slots) c.in_ok-p.p c.in_ok-p.ensures.below) in
    (c.seek.ensures.within inside).1 ∙ ap (λ t. Some t) c.spot-cycle.ensures.cycle
