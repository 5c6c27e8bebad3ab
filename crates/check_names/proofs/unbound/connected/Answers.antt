use Rattle.std.proofs.Common.{ap, map, sym, ◌∙◌}
use Rattle.design_core.specs.View.{conn_of}
use Rattle.names.specs.Known.{either}
use Rattle.check_core.specs.Ports.{connected}
use Rattle.check_names.proofs.ConnNames.{conn_next, conn_end}
use Rattle.check_names.proofs.unbound.connected.Goals as goal

pub loop-conn-init : goal.loop-conn-init
loop-conn-init c = ap (λ known. either known (connected (map conn_of c.args.conns.now))) c.new-ports.ensures.known

pub loop-conn-preserved : goal.loop-conn-preserved
loop-conn-preserved c = conn_next _ _ _ _ _ _ c.loop-conn-test.true c.conn-item.is c.bytes.ensures c.in_ok-insert.ensures.known ∙ c.loop-conn.invariant

pub returns : goal.returns
returns c = sym (conn_end _ _ _ c.loop-conn-test.false) ∙ c.loop-conn.invariant
