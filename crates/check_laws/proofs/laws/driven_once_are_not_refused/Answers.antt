use Rattle.check_laws.proofs.Driven.{driven_are_not_refused, once_are_not_refused}
use Rattle.check_laws.proofs.laws.driven_once_are_not_refused.Goals as goal

pub returns-clause-once : goal.returns-clause-once
returns-clause-once c = once_are_not_refused

pub returns-clause-driven : goal.returns-clause-driven
returns-clause-driven c = driven_are_not_refused
