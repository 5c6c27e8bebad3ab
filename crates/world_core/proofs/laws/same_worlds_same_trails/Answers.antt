use Rattle.world_core.proofs.Trails.{same_trails}
use Rattle.world_core.proofs.laws.same_worlds_same_trails.Goals as goal

pub returns : goal.returns
returns c = same_trails
