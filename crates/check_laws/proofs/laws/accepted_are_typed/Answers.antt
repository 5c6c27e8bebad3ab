use Rattle.check_laws.proofs.TypesBack.{accepted_are_typed}
use Rattle.check_laws.proofs.NamesBack.{accepted_are_named}
use Rattle.check_laws.proofs.DrivesBack.{accepted_are_driven}
use Rattle.check_laws.proofs.AssignsBack.{accepted_are_assigned}
use Rattle.check_laws.proofs.laws.accepted_are_typed.Goals as goal

pub returns-clause-typed : goal.returns-clause-typed
returns-clause-typed c = accepted_are_typed

pub returns-clause-named : goal.returns-clause-named
returns-clause-named c = accepted_are_named

pub returns-clause-driven : goal.returns-clause-driven
returns-clause-driven c = accepted_are_driven

pub returns-clause-assigned : goal.returns-clause-assigned
returns-clause-assigned c = accepted_are_assigned
