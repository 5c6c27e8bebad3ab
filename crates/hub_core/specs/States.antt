-- What a session, its listeners and its clients mean: the state of the hub.
use Rattle.std.specs.Prelude.{Bool, List, Option}
use Rattle.listen.specs.Pairs.{Heard}
use Rattle.dbg_core.specs.declared.session.Session.{Session}
use Rattle.dbg_core.specs.State.{machine_of}
use Rattle.hub_core.specs.Hubs.{HubState}

-- the state of a session whose listeners mean this, and whose clients are here by these
abbrev pub hub_state : {T : Type 0} {g : _} → Session T g → List Bool → List (Option Heard) → HubState
hub_state session here heard = record { machine = machine_of session heard; here = here }
