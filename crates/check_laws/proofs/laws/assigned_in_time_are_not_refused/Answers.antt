use Rattle.check_laws.proofs.Assigned.{always_are_not_refused, first_are_not_refused}
use Rattle.check_laws.proofs.laws.assigned_in_time_are_not_refused.Goals as goal

pub returns-clause-always : goal.returns-clause-always
returns-clause-always c = always_are_not_refused

pub returns-clause-first : goal.returns-clause-first
returns-clause-first c = first_are_not_refused
