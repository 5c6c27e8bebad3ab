use Rattle.std.proofs.Common.{◌≡◌, drop, map}
use Rattle.design_core.specs.View.{conn_of}
use Rattle.names.specs.Maps.{value_of}
use Rattle.check_core.specs.Drivers.{connected_twice}
use Rattle.check_paths.proofs.twice.connected_among.Given as goal

-- what is left tells what all tells
abbrev pub invariant-loop-conn : goal.invariant-loop-conn
invariant-loop-conn l = connected_twice (value_of l.lines) (map conn_of (drop l.conn-index l.conns)) ≡ connected_twice (value_of l.initial.lines) (map conn_of l.conns)
