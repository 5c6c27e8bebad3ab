use Rattle.trim_laws.proofs.Worlds.{worlds_are_same, worlds_are_seen_alike}
use Rattle.trim_laws.proofs.laws.worlds_are_same.Goals as goal

pub returns-clause-same : goal.returns-clause-same
returns-clause-same c = worlds_are_same

pub returns-clause-alike : goal.returns-clause-alike
returns-clause-alike c = worlds_are_seen_alike
