-- The link's side of a connection in two threads: what it has done since it began.
use Rattle.std.specs.Prelude.{◌≡◌, ◌⊎◌, true, false, ◌++◌, None, Some}
use Rattle.io_edge.specs.Taken.{Appends}
use Rattle.rtrb.specs.Ring.{sent, received}
use Rattle.link_edge.specs.Links.{Meaning, message_in}
use Rattle.link_pump.specs.declared.cause.Cause.{Cause}
use Rattle.link_pump.specs.declared.cause.Cause.TheVariants.{NoMemory}
use Rattle.link_pump.specs.declared.pump.Pump.{Pump}
use Rattle.link_pump.specs.Outlets.{Delivered}
use Rattle.link_pump.specs.Rings.{heard_in, as_heard, mark_of, lines_in, begins, client_left}

-- From a link that meant the first, and now means the second: what was read was pushed, but for one message that is held; the lines
-- that were popped were delivered; the mark that the link is over was pushed last, and says why it is, unless memory ran out since;
-- the link is as it was until the session has begun; and it is known whether the client has left.
pub record Pumped {L : Type 0} (start now : Meaning) (p : Pump L) : Type 0 where
  pub read : Appends start.received now.received (heard_in (sent p.messages) ++ message_in p.held)
  pub delivered : Delivered start now p.outlet (lines_in (received p.lines))
  pub feed : sent p.messages ≡ as_heard (heard_in (sent p.messages)) ++ mark_of p.marked
  pub told : (cause : Cause) → p.marked ≡ Some cause → (p.outlet.over ≡ Some cause) ⊎ (p.outlet.over ≡ Some NoMemory)
  pub settled : (cause : Cause) → p.marked ≡ Some cause → p.held ≡ None
  pub begun : p.begun ≡ true → begins (received p.lines) ≡ true
  pub untouched : begins (received p.lines) ≡ false → now ≡ start
  pub left : p.left ≡ client_left (received p.lines)
