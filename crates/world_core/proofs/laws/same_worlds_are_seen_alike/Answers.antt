use Rattle.world_core.proofs.Seen.{same_worlds_seen_alike, seen_worlds_same, seen_worlds_keep_trails}
use Rattle.world_core.proofs.laws.same_worlds_are_seen_alike.Goals as goal

pub returns-clause-alike : goal.returns-clause-alike
returns-clause-alike c = same_worlds_seen_alike

pub returns-clause-same : goal.returns-clause-same
returns-clause-same c = seen_worlds_same

pub returns-clause-trails : goal.returns-clause-trails
returns-clause-trails c = seen_worlds_keep_trails
