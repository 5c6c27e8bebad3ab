-- What listeners mean behind a turn or a request, by what was turned or asked alone.
use Rattle.std.specs.Prelude.{ℕ, List, map, Option, None, Some, set}
use Rattle.std.specs.Option.{option_map}
use Rattle.listen.specs.Pairs.{Heard, after}
use Rattle.machine_core.specs.declared.request.Asked.{Asked}
use Rattle.machine_core.specs.declared.request.Asked.TheVariants.{Good, Bad}
use Rattle.machine_core.specs.declared.request.Cmd.{Cmd}
use Rattle.machine_core.specs.declared.request.Cmd.TheVariants as cmd
use Rattle.machine_core.specs.declared.turn.Turned.{Turned}
use Rattle.machine_core.specs.declared.turn.Turned.TheVariants as turned

-- each is told of a stop, and of nothing else
abbrev pub heard_after : Turned → List (Option Heard) → List (Option Heard)
heard_after turned.Idle heard = heard
heard_after turned.Moved heard = heard
heard_after (turned.Stopped note) heard = map (option_map (after note)) heard
heard_after turned.AtEnd heard = heard
heard_after turned.AtStart heard = heard

-- the number of the listener that a command drops, if it drops one
abbrev pub dropped_by : Cmd → Option ℕ
dropped_by (cmd.Drop k) = Some k
dropped_by other = None

abbrev pub to_drop : Asked → Option ℕ
to_drop (Good request) = dropped_by request.cmd
to_drop (Bad text) = None

-- the listeners without that of a number, if there is a number
abbrev pub without : Option ℕ → List (Option Heard) → List (Option Heard)
without None heard = heard
without (Some k) heard = set heard k None
