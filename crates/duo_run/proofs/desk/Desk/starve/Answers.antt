use Rattle.std.proofs.Common.{rules, [], append-nil}
use Rattle.duo_run.proofs.Keeping.{put_aside}
use Rattle.duo_run.proofs.desk.Desk.starve.Goals as goal

pub returns-clause-keeps : goal.returns-clause-keeps
returns-clause-keeps g c = λ start polls deeds made was.
    put_aside start _ _ c.args.self.now c.lose.new.self c.push.new.self c.args.text polls deeds made (search rules) c.lose.ensures.link (λ delivered. rw append-nil at (c.lose.ensures.keeps start made [] delivered)) was
