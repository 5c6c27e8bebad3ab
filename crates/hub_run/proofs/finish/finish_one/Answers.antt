use Rattle.hub_run.proofs.finish.finish_one.Goals as goal

pub returns-in-Some-Far : goal.returns-in-Some-Far
returns-in-Some-Far g c = λ start asked lines took here was.
    c.finish_far.ensures start asked lines took here (rw (c.in-Some-Far.is-0, c.in-Some-Far.is-1) at was)
