use Rattle.std.proofs.Common.{◌∙◌}
use Rattle.check_paths.proofs.Drives.{conn_next}
use Rattle.check_paths.proofs.twice.connected_among.Goals as goal

pub loop-conn-preserved : goal.loop-conn-preserved
loop-conn-preserved c = conn_next _ _ _ _ _ c.loop-conn-test.true c.conn-item.is c.in_ok-conn_once.ensures.told c.in_ok-conn_once.ensures.lines ∙ c.loop-conn.invariant
