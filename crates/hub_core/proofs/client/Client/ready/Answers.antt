use Rattle.std.proofs.Common.{[], append-nil, ap}
use Rattle.hub_core.proofs.Placing.{place_lost, fits_sent, room_sent}
use Rattle.hub_core.proofs.client.Client.ready.Goals as goal

pub returns-then-is_err-clause-keeps : goal.returns-then-is_err-clause-keeps
returns-then-is_err-clause-keeps g c = λ start asked made was.
    fits_sent start _ _ (record c.args.self.now { outlet = record c.args.self.now.outlet { sent = c.try_reserve.new.self } }) c.lose.new.self asked made made (ap (λ m. m.received) c.lose.ensures.link)
    (λ d. rw append-nil at (c.lose.ensures.keeps start made [] d))
    (room_sent start _ c.args.self.now c.try_reserve.new.self asked made c.try_reserve.ensures.items was)

pub returns-then-is_err-clause-place : goal.returns-then-is_err-clause-place
returns-then-is_err-clause-place g c = λ was. place_lost _ _ _ _ c.lose.ensures.over was.2

pub returns-else-is_err-clause-keeps : goal.returns-else-is_err-clause-keeps
returns-else-is_err-clause-keeps g c = λ start asked made was.
    room_sent start _ c.args.self.now c.try_reserve.new.self asked made c.try_reserve.ensures.items was
