use Rattle.std.proofs.Common.{◌≡◌, sym, ap, ◌∙◌, subst}
use Rattle.std.specs.Prelude.{IfOk}
use Rattle.dbg_core.specs.World.{world_of}
use Rattle.dbg_core.specs.Answering.{told_of, eval_body}
use Rattle.dbg_core.proofs.Evals.{eval_at_stop}
use Rattle.dbg_core.proofs.Standing.{thread_known}
use Rattle.dbg_core.proofs.stops.eval_asked.Goals as goal

pub returns-in-Ok-clause-body : goal.returns-in-Ok-clause-body
returns-in-Ok-clause-body g c = λ read reader.
    let parts = c.args.table.now in
    let s = g.T.Trace.samples c.args.trace.now in
    let thread = thread_known (world_of parts s) c.args.motion c.args.place c.args.path.now c.in-Ok.p c.in-Ok.instance (sym c.in-Ok.ensures.thread) in
    let same = eval_at_stop parts c.parts-parts.ensures.table s c.in-Ok.p c.in-Ok.ensures.below (g.T.Trace.samples c.thread_of.new.trace) (g.T.Trace.cursor c.thread_of.new.trace) c.spot-slot.result.1
    c.in-Ok.instance c.in-Ok.ensures.kept c.in-Ok.ensures.set c.spot-slot.ensures.slot c.in-Ok.ensures.there thread (read c.args.expr.now)
    ∙ ap (told_of (eval_body (world_of parts s) (read c.args.expr.now))) c.in-Ok.ensures.thread in
    subst (λ told. IfOk c.eval_in.result (λ body. body ≡ told)) same (c.eval_in.ensures read reader)
