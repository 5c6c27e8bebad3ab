use Rattle.std.proofs.Common.{ap, ap₂, ◌∙◌}
use Rattle.machine_core.specs.Reading.{IsReader}
use Rattle.dbg_core.specs.World.{world_of}
use Rattle.dbg_core.specs.State.{counted_as}
use Rattle.dbg_core.specs.Answering.{answered, told_of, thread_of, eval_body}
use Rattle.dbg_core.proofs.Standing.{eval_answered, ok_for_all}
use Rattle.dbg_core.proofs.session.Session.tell_value.Goals as goal

pub returns-clause-answer : goal.returns-clause-answer
returns-clause-answer g c =
    let w = world_of c.args.self.now.table (g.T.Trace.samples c.args.self.now.trace) in
    ok_for_all c.eval_asked.result IsReader _ _
    (λ body h. λ read ordinal heard id reader.
    ap (answered (counted_as c.args.self.now ordinal heard) id)
    (h read reader ∙ ap₂ (λ path expr. told_of (eval_body w (read expr)) (thread_of w c.args.self.now.motion c.args.self.now.place path)) c.text.ensures c.text-2.ensures)
    ∙ eval_answered w (counted_as c.args.self.now ordinal heard) id c.args.path.now (read c.args.expr.now))
    c.eval_asked.ensures.body
