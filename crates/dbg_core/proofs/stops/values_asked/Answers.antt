use Rattle.std.proofs.Common.{sym, ap, ◌∙◌}
use Rattle.machine_core.specs.declared.reply.Body.TheVariants as body
use Rattle.dbg_core.specs.World.{world_of}
use Rattle.dbg_core.specs.Answering.{told_of, values_body}
use Rattle.dbg_core.proofs.Standing.{thread_known}
use Rattle.dbg_core.proofs.Values.{row_at_stop}
use Rattle.dbg_core.proofs.stops.values_asked.Goals as goal

pub returns-in_ok-values-in-Ok-clause-body : goal.returns-in_ok-values-in-Ok-clause-body
returns-in_ok-values-in-Ok-clause-body g c =
    let parts = c.args.table.now in
    let s = g.T.Trace.samples c.args.trace.now in
    let thread = thread_known (world_of parts s) c.args.motion c.args.place c.args.path.now c.in-Ok.p c.in-Ok.instance (sym c.in-Ok.ensures.thread) in
    ap (λ v. body.Values v)
    (c.new.ensures ∙ c.in_ok-values-in-Ok.ensures
    ∙ row_at_stop parts s c.in-Ok.p c.in-Ok.ensures.below (g.T.Trace.samples c.thread_of.new.trace) (g.T.Trace.cursor c.thread_of.new.trace) c.spot-slot.result.1 c.in-Ok.instance
    c.in-Ok.ensures.kept c.in-Ok.ensures.set c.spot-slot.ensures.slot thread)
    ∙ ap (told_of (values_body (world_of parts s))) c.in-Ok.ensures.thread
