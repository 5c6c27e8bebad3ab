use Rattle.std.proofs.Common.{[]}
use Rattle.hub_core.proofs.Placing.{fits_roomy}
use Rattle.hub_core.proofs.client.Client.make_room.Goals as goal

pub returns-then-is_err-clause-keeps : goal.returns-then-is_err-clause-keeps
returns-then-is_err-clause-keeps g c = λ start was.
    fits_roomy start _ _ c.args.self.now c.lose.new.self c.try_reserve.new.self [] [] c.try_reserve.ensures.items c.lose.ensures.link (λ d. c.lose.ensures.keeps start [] [] d) was
