use Rattle.std.proofs.Common.{[], ◌∷◌}
use Rattle.link_pump.proofs.outlet.Outlet.keep_or_lose.Goals as goal

pub returns-then-is_none-clause-any : goal.returns-then-is_none-clause-any
returns-then-is_none-clause-any g c = λ start now made was. c.lose.ensures.any start now made (c.args.text ∷ []) was
