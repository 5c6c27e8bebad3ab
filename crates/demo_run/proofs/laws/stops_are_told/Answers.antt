use Rattle.demo_run.proofs.Told as told
use Rattle.demo_run.proofs.laws.stops_are_told.Goals as goal

pub returns : goal.returns
returns c = told.stops_are_told
