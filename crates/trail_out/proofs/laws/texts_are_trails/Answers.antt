use Rattle.trail_out.proofs.Trails.{texts_are_trails}
use Rattle.trail_out.proofs.laws.texts_are_trails.Goals as goal

pub returns : goal.returns
returns c = texts_are_trails
