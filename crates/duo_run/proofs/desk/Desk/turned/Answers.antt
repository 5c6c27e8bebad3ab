use Rattle.duo_run.proofs.Keeping.{gone_on}
use Rattle.duo_run.proofs.desk.Desk.turned.Goals as goal

pub returns-clause-keeps : goal.returns-clause-keeps
returns-clause-keeps g c = λ start polls deeds made lines is was.
    gone_on start _ _ c.args.self.now c.note.new.outlet c.add_turn.new.self polls deeds made _ c.add_turn.ensures c.note.ensures.polls c.note.ensures.received
    (λ delivered. c.note.ensures.keeps start made lines is delivered) was
