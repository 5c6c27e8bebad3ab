use Rattle.hub_core.proofs.lockstep.serve_hub_in.Goals as goal

pub returns-clause-carried : goal.returns-clause-carried
returns-clause-carried g c = λ read reader. c.serve_seats.ensures.carried read reader _ c.requires.usable c.seat_all-seats.ensures.seated.fresh
