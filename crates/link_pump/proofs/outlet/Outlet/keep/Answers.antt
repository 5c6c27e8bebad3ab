use Rattle.std.proofs.Common.{rules, ◌≢◌, ◌∷◌, [], Some}
use Rattle.link_pump.specs.declared.cause.Cause.TheVariants as cause
use Rattle.link_pump.proofs.Sending.{no_room, kept}
use Rattle.link_pump.proofs.outlet.Outlet.keep.Goals as goal

pub returns-then-eq-clause-keeps : goal.returns-then-eq-clause-keeps
returns-then-eq-clause-keeps g c = λ start made was. c.lose.ensures.keeps start made (c.args.text ∷ []) was

pub returns-then-is_err-clause-keeps : goal.returns-then-is_err-clause-keeps
returns-then-is_err-clause-keeps g c = λ start made was.
    c.lose-then-is_err.ensures.keeps start made (c.args.text ∷ []) (no_room start _ c.args.self.now c.push.new.self made (search rules) was)

pub returns-else-is_err-clause-keeps : goal.returns-else-is_err-clause-keeps
returns-else-is_err-clause-keeps g c = λ start made was.
    let fed : c.args.self.now.over ≢ Some cause.NoMemory = search rules in
    kept start _ c.args.self.now c.push.new.self c.args.text made c.requires fed (search rules) was

pub returns-then-eq-clause-any : goal.returns-then-eq-clause-any
returns-then-eq-clause-any g c = λ start now made was. c.lose.ensures.any start now made (c.args.text ∷ []) was

pub returns-then-is_err-clause-any : goal.returns-then-is_err-clause-any
returns-then-is_err-clause-any g c = λ start now made was.
    c.lose-then-is_err.ensures.any start now made (c.args.text ∷ []) (no_room start now c.args.self.now c.push.new.self made (search rules) was)

pub returns-else-is_err-clause-any : goal.returns-else-is_err-clause-any
returns-else-is_err-clause-any g c = λ start now made was.
    let fed : c.args.self.now.over ≢ Some cause.NoMemory = search rules in
    kept start now c.args.self.now c.push.new.self c.args.text made c.requires fed (search rules) was
