use Rattle.std.proofs.Common.{rules, [], append-nil}
use Rattle.duo_run.proofs.Keeping.{room_made}
use Rattle.duo_run.proofs.desk.Desk.make_room.Goals as goal

pub returns-then-is_err-clause-keeps : goal.returns-then-is_err-clause-keeps
returns-then-is_err-clause-keeps g c = λ start polls deeds made was.
    room_made start _ _ c.args.self.now c.lose.new.self c.try_reserve.new.self polls deeds made (search rules) c.lose.ensures.link
    (λ delivered. rw append-nil at (c.lose.ensures.keeps start made [] delivered)) was
