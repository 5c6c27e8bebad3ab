use Rattle.std.proofs.Common.{subst, map}
use Rattle.design_core.specs.View.{conn_of}
use Rattle.check_core.specs.Faults.{Tells}
use Rattle.check_core.specs.Drivers.{Lines, connected_twice}
use Rattle.check_paths.proofs.twice.connected_once.Goals as goal

pub returns : goal.returns
returns c = subst (λ (k : Lines). Tells c.connected_among.result (connected_twice k (map conn_of c.args.conns.now))) c.new-lines.ensures c.connected_among.ensures
