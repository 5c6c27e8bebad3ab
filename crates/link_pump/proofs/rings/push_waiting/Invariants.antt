use Rattle.std.proofs.Common.{◌≡◌}
use Rattle.rtrb.specs.Ring.{sent, SameProducer}
use Rattle.link_pump.proofs.rings.push_waiting.Given as goal

abbrev pub invariant-loop : goal.invariant-loop
invariant-loop g l = SameProducer l.initial.lines l.lines × (sent l.lines ≡ sent l.initial.lines) × (l.item ≡ l.initial.item)
