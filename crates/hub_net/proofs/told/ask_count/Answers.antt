use Rattle.std.proofs.Common.{◌<◌, ◌≤◌, length, arith}
use Rattle.hub_net.proofs.Counting.{asks_more, asks_all}
use Rattle.hub_net.proofs.told.ask_count.Goals as goal

pub loop-event-preserved : goal.loop-event-preserved
loop-event-preserved c =
    let within : c.loop-event.event-index < length c.args.events.now = omega arith in (
      rw c.asks-count.ensures.asks (asks_more c.args.client c.args.events.now c.loop-event.event-index c.event-item.result c.loop-event.count _ within c.event-item.is c.loop-event.invariant.0),
      omega (arith, c.loop-event.invariant.1, c.asks-count.ensures.few),
    )

pub returns : goal.returns
returns c =
    let past : length c.args.events.now ≤ c.loop-event.event-index = omega arith in
    asks_all c.args.client c.args.events.now c.loop-event.event-index c.loop-event.count _ past c.loop-event.invariant.0
