use Rattle.std.proofs.Common.{rules}
use Rattle.duo_run.proofs.Joining.{side_left}
use Rattle.duo_run.proofs.side.serve_side.Goals as goal

pub returns-clause-side : goal.returns-clause-side
returns-clause-side g c =
    let a = c.begin-ends.result in
    let s = c.serve_lockstep-link.result in
    rw c.finish-messages.ensures.messages
    (side_left a.messages s.link.messages a.lines s.link.lines a.over s.link.over a.idles s.link.idles a.shut s.link.shut s.journal.items s.unapplied.items s.sent.items s.unsent.items s.end
    c.serve_lockstep-link.ensures.carried c.finish-messages.result.1 (search rules) c.begin-ends.ensures.lines.1 c.begin-ends.ensures.over s.link.marked c.finish-messages.ensures.lines.1 c.finish-messages.ensures.last
    c.serve_lockstep-link.ensures.few)
