use Rattle.std.proofs.Common.{◌≡◌, drop, map}
use Rattle.design_core.specs.View.{conn_of}
use Rattle.check_core.specs.Faults.{first_of}
use Rattle.check_core.specs.Names.{unknown_in_conn}
use Rattle.check_names.specs.Scopes.{scope_in}
use Rattle.check_names.proofs.unknown.unknown_in_child.Given as goal

-- what is left tells what all tells
abbrev pub invariant-loop-conn : goal.invariant-loop-conn
invariant-loop-conn l = first_of (unknown_in_conn (scope_in l.scope)) (map conn_of (drop l.conn-index l.child.conns.items)) ≡ first_of (unknown_in_conn (scope_in l.scope)) (map conn_of l.child.conns.items)
