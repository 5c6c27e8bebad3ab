use Rattle.std.proofs.Common.{rules, ◌≡◌, ◌∷◌, []}
use Rattle.link_pump.proofs.outlet.Outlet.tell.Goals as goal

pub returns-in-Ok-clause-keeps : goal.returns-in-Ok-clause-keeps
returns-in-Ok-clause-keeps g c = λ start made line is was.
    let e : c.new.result ≡ line = search rules in rw e at (c.deliver.ensures.keeps start made was)

pub returns-in-Err-clause-keeps : goal.returns-in-Err-clause-keeps
returns-in-Err-clause-keeps g c = λ start made line is was. c.lose.ensures.keeps start made (line ∷ []) was
