use Rattle.std.proofs.Common.{ap, ◌+◌}
use Rattle.tree_core.specs.Tree.{Input}
use Rattle.sim_hist.proofs.Placing.{sought_next}
use Rattle.sim_hist.proofs.columns.place_of.Goals as goal

pub loop-port-preserved : goal.loop-port-preserved
loop-port-preserved c = (
  ap (λ n. n + 1) c.loop-port.invariant.0,
  sought_next c.args.ports.now (Input c.args.name.now c.args.width) c.loop-port.port-index c.port-item.result c.is_port.result c.loop-port-test.true c.port-item.is c.is_port.ensures c.if-is_port.false c.loop-port.invariant.1,
)
