use Rattle.std.proofs.Common.{◌≡◌, drop, map}
use Rattle.design_core.specs.View.{conn_of}
use Rattle.names.specs.Known.{has, either}
use Rattle.check_core.specs.Ports.{connected}
use Rattle.check_names.proofs.unbound.connected.Given as goal

-- those so far, and those of what is left
abbrev pub invariant-loop-conn : goal.invariant-loop-conn
invariant-loop-conn l = either (has l.ports) (connected (map conn_of (drop l.conn-index l.conns))) ≡ connected (map conn_of l.conns)
