use Rattle.demo_run.proofs.Told as told
use Rattle.demo_run.proofs.laws.two_ways_are_all.Goals as goal

pub returns : goal.returns
returns c = told.two_ways_are_all
