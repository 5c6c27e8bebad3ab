use Rattle.design_core.proofs.PortSteps.{ports_more}
use Rattle.design_core.proofs.top.ports_among.Goals as goal

pub loop-signal-preserved : goal.loop-signal-preserved
loop-signal-preserved c =
    ports_more c.args.output c.args.signals.now c.loop-signal.signal-index c.signal-item.result c.loop-signal.ports.items c.put.new.ports.items c.loop-signal-test.true c.signal-item.is c.loop-signal.invariant
    c.in_ok-put.ensures
