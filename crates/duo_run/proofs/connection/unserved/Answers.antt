use Rattle.std.proofs.Common.{[], refl, append-nil}
use Rattle.machine_core.specs.Machine.{opening}
use Rattle.machine_core.specs.Journal.{closing_lines}
use Rattle.duo_run.specs.Sample.{world}
use Rattle.link_pump.proofs.Sending.{lasts_same, lost_more}
use Rattle.duo_run.proofs.Keeping.{ended_on}
use Rattle.duo_run.proofs.Serving.{begins, carries, applies}
use Rattle.duo_run.proofs.connection.unserved.Goals as goal

pub returns-clause-carried : goal.returns-clause-carried
returns-clause-carried g c =
    let held = ended_on (g.L.Link.meaning c.args.link) _ _ c.new-desk.result c.lose.new.self c.new-desk.result.journal [] [] [] [] refl c.lose.ensures.link
    (λ h. rw append-nil at (c.lose.ensures.keeps (g.L.Link.meaning c.args.link) [] [] h)) c.new-desk.ensures.held in
    let d = record c.new-desk.result { outlet = c.lose.new.self } in
    rw (c.into_served.ensures.link, c.into_served.ensures.journal, c.into_served.ensures.unapplied, c.into_served.ensures.sent, c.into_served.ensures.unsent, c.into_served.ensures.end)
    (carries world (opening []) (g.L.Link.meaning c.args.link) _ _ d (opening []) c.lose.new.self [] (lasts_same c.lose.new.self.over)
    (λ made h. lost_more _ _ c.lose.new.self made [] c.lose.ensures.over h) refl refl (begins world (opening []) _ _ d c.new-desk.ensures.left held) (λ fed. c.new-desk.ensures.unapplied))

pub returns-clause-applied : goal.returns-clause-applied
returns-clause-applied g c = λ w m read reader.
    let held = ended_on (g.L.Link.meaning c.args.link) _ _ c.new-desk.result c.lose.new.self c.new-desk.result.journal [] [] [] [] refl c.lose.ensures.link
    (λ h. rw append-nil at (c.lose.ensures.keeps (g.L.Link.meaning c.args.link) [] [] h)) c.new-desk.ensures.held in
    let d = record c.new-desk.result { outlet = c.lose.new.self } in
    rw (c.into_served.ensures.journal, c.into_served.ensures.sent, c.into_served.ensures.unsent, c.into_served.ensures.end)
    (applies w m (g.L.Link.meaning c.args.link) _ _ d m c.lose.new.self (closing_lines m.heard) (lasts_same c.lose.new.self.over)
    (λ made h. lost_more _ _ c.lose.new.self made _ c.lose.ensures.over h) refl refl (begins w m _ _ d c.new-desk.ensures.left held) refl (rw (c.lose.ensures.over, c.new-desk.ensures.left) refl) read reader)
