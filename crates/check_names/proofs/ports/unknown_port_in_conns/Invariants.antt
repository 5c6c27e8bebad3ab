use Rattle.std.proofs.Common.{◌≡◌, drop, map}
use Rattle.design_core.specs.View.{conn_of}
use Rattle.names.specs.Known.{has}
use Rattle.check_core.specs.Faults.{first_of}
use Rattle.check_core.specs.Ports.{unknown_port_at}
use Rattle.check_names.proofs.ports.unknown_port_in_conns.Given as goal

-- what is left tells what all tells
abbrev pub invariant-loop-conn : goal.invariant-loop-conn
invariant-loop-conn l = first_of (unknown_port_at (has l.outputs) (has l.inputs)) (map conn_of (drop l.conn-index l.conns)) ≡ first_of (unknown_port_at (has l.outputs) (has l.inputs)) (map conn_of l.conns)
