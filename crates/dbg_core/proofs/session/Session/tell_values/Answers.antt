use Rattle.std.proofs.Common.{ap, ◌∙◌}
use Rattle.std.proofs.lemmas.Result.{IfOk-weaker}
use Rattle.dbg_core.specs.World.{world_of}
use Rattle.dbg_core.specs.State.{counted_as}
use Rattle.dbg_core.specs.Answering.{answered, told_of, thread_of, values_body}
use Rattle.dbg_core.proofs.Standing.{values_answered}
use Rattle.dbg_core.proofs.session.Session.tell_values.Goals as goal

pub returns-clause-answer : goal.returns-clause-answer
returns-clause-answer g c =
    let w = world_of c.args.self.now.table (g.T.Trace.samples c.args.self.now.trace) in
    IfOk-weaker c.values_asked.result _ _
    (λ body h. λ read ordinal heard id.
    ap (answered (counted_as c.args.self.now ordinal heard) id) (h ∙ ap (λ path. told_of (values_body w) (thread_of w c.args.self.now.motion c.args.self.now.place path)) c.text.ensures)
    ∙ values_answered w (counted_as c.args.self.now ordinal heard) id c.args.path.now)
    c.values_asked.ensures.body
