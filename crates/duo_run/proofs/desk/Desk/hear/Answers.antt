use Rattle.std.proofs.Common.{◌∷◌, ◌++◌, [], Some, ap}
use Rattle.link_pump.specs.Outlets.{polled_without}
use Rattle.duo_run.specs.Desks.{starved, none}
use Rattle.duo_run.proofs.Keeping.{polled_on, same_desk}
use Rattle.duo_run.proofs.desk.Desk.hear.Goals as goal

pub returns-in-Ok-clause-some : goal.returns-in-Ok-clause-some
returns-in-Ok-clause-some g c = λ start polls deeds made was.
    let held = polled_on start _ _ c.args.self.now c.poll.new.self polls (Some c.in-Some.text ∷ []) deeds (c.in-Some.text ∷ []) made c.in-Some.ensures.some c.in-Some.ensures.heard (λ delivered. c.poll.ensures.keeps start made delivered) was in
    same_desk start _ _ _ c.read.new.self (polls ++ Some c.in-Some.text ∷ []) deeds (c.in-Some.text ∷ []) made c.read.ensures.rest.0 c.read.ensures.rest.1 c.read.ensures.same (ap (λ o. g.L.Link.meaning o.link) c.read.ensures.rest.0) held

pub returns-in-Err-clause-none : goal.returns-in-Err-clause-none
returns-in-Err-clause-none g c = λ start polls deeds made was.
    let held = polled_on start _ _ c.args.self.now c.poll.new.self polls (Some c.in-Some.text ∷ []) deeds (c.in-Some.text ∷ []) made c.in-Some.ensures.some c.in-Some.ensures.heard (λ delivered. c.poll.ensures.keeps start made delivered) was in
    let same = same_desk start _ _ _ c.read.new.self (polls ++ Some c.in-Some.text ∷ []) deeds (c.in-Some.text ∷ []) made c.read.ensures.rest.0 c.read.ensures.rest.1 c.read.ensures.same (ap (λ o. g.L.Link.meaning o.link) c.read.ensures.rest.0) held in
    starved c.in-Some.text c.starve.ensures.over (c.starve.ensures.keeps start (polls ++ Some c.in-Some.text ∷ []) deeds made same)

pub returns-in-None-clause-none : goal.returns-in-None-clause-none
returns-in-None-clause-none g c = λ start polls deeds made was.
    none (polled_on start _ _ c.args.self.now c.poll.new.self polls (polled_without c.poll.new.self.over) deeds [] made c.in-None.ensures.none c.in-None.ensures.silent (λ delivered. c.poll.ensures.keeps start made delivered) was)
