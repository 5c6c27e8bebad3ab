use Rattle.std.proofs.Common.{[], append-nil}
use Rattle.duo_run.proofs.Keeping.{ended_on}
use Rattle.duo_run.proofs.desk.Desk.is_ready.Goals as goal

pub returns-then-is_err-clause-keeps : goal.returns-then-is_err-clause-keeps
returns-then-is_err-clause-keeps g c = λ start polls deeds made was.
    ended_on start _ _ c.args.self.now c.lose.new.self c.reserve.new.self polls deeds [] made c.reserve.ensures.same c.lose.ensures.link
    (λ delivered. rw append-nil at (c.lose.ensures.keeps start made [] delivered)) was
