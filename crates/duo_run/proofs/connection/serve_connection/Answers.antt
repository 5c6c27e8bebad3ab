use Rattle.duo_run.proofs.connection.serve_connection.Goals as goal

pub returns-in-Ok-clause-applied : goal.returns-in-Ok-clause-applied
returns-in-Ok-clause-applied g c = λ read reader.
    rw (c.new-session.ensures.table, c.new-session.ensures.samples) at (c.serve_duo.ensures.applied read reader _ c.in-Ok.ensures)

pub returns-in-Err-clause-applied : goal.returns-in-Err-clause-applied
returns-in-Err-clause-applied g c = λ read reader. c.unserved.ensures.applied _ _ read reader
