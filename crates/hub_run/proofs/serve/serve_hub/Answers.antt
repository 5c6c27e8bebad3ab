use Rattle.hub_core.specs.Served.{carried}
use Rattle.hub_run.proofs.serve.serve_hub.Goals as goal

pub returns-in-Ok : goal.returns-in-Ok
returns-in-Ok g c = record { served = λ read reader. carried (c.serve_rooms.ensures read reader) }
