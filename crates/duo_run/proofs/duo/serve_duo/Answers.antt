use Rattle.duo_run.proofs.duo.serve_duo.Goals as goal

pub returns-in-Err-clause-applied : goal.returns-in-Err-clause-applied
returns-in-Err-clause-applied g c = λ read reader told is. c.unserved.ensures.applied _ _ read reader
