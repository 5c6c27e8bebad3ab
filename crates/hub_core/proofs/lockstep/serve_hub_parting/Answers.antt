use Rattle.hub_core.specs.Served.{carried}
use Rattle.hub_core.proofs.Ending.{none_applied}
use Rattle.hub_core.proofs.lockstep.serve_hub_parting.Goals as goal

pub returns-in-Ok-clause-served : goal.returns-in-Ok-clause-served
returns-in-Ok-clause-served g c = λ read reader. carried (c.serve_hub_in.ensures.carried read reader)

pub returns-in-Err-clause-applied : goal.returns-in-Err-clause-applied
returns-in-Err-clause-applied g c = none_applied c.unserved.result.clients.items c.unserved.ensures.nothing.1
