-- A session that no listener hears of: its world, and its machine.
use Rattle.std.specs.Prelude.{[], Option}
use Rattle.world_core.specs.World.{World}
use Rattle.machine_core.specs.Machine.{Machine}
use Rattle.dbg_core.specs.World.{world_of}
use Rattle.dbg_core.specs.State.{machine_of}
use Rattle.dbg_core.specs.declared.session.Session.{Session}
use Rattle.dap_text.specs.declared.payload.Payload.{Payload}
use Rattle.dap_text.specs.declared.payload.Happening.{Happening}
use Rattle.dap_link.specs.Conversation.{Led}

-- what its table and its trace tell, as it is seen
abbrev pub world_in : {T : Type 0} {g : _} → Session T g → World
world_in {T} {g} s = world_of s.table (g.samples s.trace)

abbrev pub alone : {T : Type 0} {g : _} → Session T g → Machine
alone s = machine_of s []

-- what a command leads to, by its parts
abbrev pub led_with : Machine → Payload → Option Happening → Led
led_with m told happened = record { after = m; told = told; happened = happened }
