-- The session's ends of the two rings, as a link.
use Rattle.std.specs.Prelude.{ℕ, Bool, ◌++◌, Option, None, Some}
use Rattle.std.specs.declared.alloc.Global.{Global}
use Rattle.rtrb.specs.declared.AnyItems.{AnyItems}
use Rattle.rtrb.specs.declared.producer.Producer.{Producer}
use Rattle.rtrb.specs.declared.consumer.Consumer.{Consumer}
use Rattle.rtrb.specs.Ring.{sent, received}
use Rattle.link_edge.specs.Links.{Meaning}
use Rattle.link_edge.specs.declared.answers.Polled.{Polled}
use Rattle.link_edge.specs.declared.answers.Polled.TheVariants as polled
use Rattle.link_pump.specs.declared.cause.Cause.{Cause}
use Rattle.link_pump.specs.declared.cause.Cause.TheVariants.{Closed, Failed, NoMemory}
use Rattle.link_pump.specs.declared.rings.FromLink.{FromLink}
use Rattle.link_pump.specs.declared.rings.ToLink.{ToLink}
use Rattle.link_pump.specs.Rings.{heard_in, lines_in}
use Rattle.link_pump.specs.Names.{ring_of_consumer, ring_of_producer}

-- how often it was closed, and how often it broke
abbrev pub closes : Option Cause → ℕ
closes None = 0
closes (Some Closed) = 1
closes (Some Failed) = 0
closes (Some NoMemory) = 0

abbrev pub breaks : Option Cause → ℕ
breaks None = 0
breaks (Some Closed) = 0
breaks (Some Failed) = 1
breaks (Some NoMemory) = 0

-- what a poll answers where it is over
abbrev pub over_as : Cause → Polled
over_as Closed = polled.Closed
over_as Failed = polled.Failed
over_as NoMemory = polled.NoMemory

-- What was popped was received, and what was pushed was sent. Before these stands what each ring is known by: no call changes it.
abbrev pub meaning_of : Consumer FromLink Global AnyItems → Producer ToLink Global AnyItems → Option Cause → ℕ → Bool → Meaning
meaning_of messages lines over idles shut = record {
  polls = None;
  received = Some (ring_of_consumer messages ++ heard_in (received messages));
  sent = Some (ring_of_producer lines ++ lines_in (sent lines));
  faults = breaks over;
  idles = idles;
  ends = closes over;
  shut = shut;
}
