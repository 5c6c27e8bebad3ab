use Rattle.names.proofs.Sets.{known_grown}
use Rattle.names.proofs.set.NameSet.insert.Goals as goal

pub returns-clause-known : goal.returns-clause-known
returns-clause-known c = known_grown _ _ _ _ c.in_ok-added.ensures.added c.in_ok-added.ensures.names
