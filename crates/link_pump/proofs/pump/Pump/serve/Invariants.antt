use Rattle.std.proofs.Common.{◌≡◌, false}
use Rattle.rtrb.specs.Ring.{SameProducer, SameConsumer}
use Rattle.link_pump.specs.Pumps.{Pumped}
use Rattle.link_pump.proofs.pump.Pump.serve.Given as goal

abbrev pub invariant-loop : goal.invariant-loop
invariant-loop g l = record {
  served : Pumped (g.L.Link.meaning l.fn.link) (g.L.Link.meaning l.side.outlet.link) l.side;
  usable : (g.L.Link.meaning l.side.outlet.link).shut ≡ false;
  messages : SameProducer l.fn.messages l.side.messages;
  lines : SameConsumer l.fn.lines l.side.lines;
}
