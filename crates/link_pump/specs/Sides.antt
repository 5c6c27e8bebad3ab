-- The two rings when they are new, what the session's side of a link leaves of them, and what passed through the link.
use Rattle.std.specs.Prelude.{◌≡◌, ◌≢◌, ◌≤◌, ◌⊎◌, ℕ, true, List, [], ◌++◌, Option, None, Some, length, Vec, vec_capacity}
use Rattle.std.specs.declared.alloc.Global.{Global}
use Rattle.io_edge.specs.Faults.{Rose}
use Rattle.io_edge.specs.Taken.{Appends}
use Rattle.rtrb.specs.declared.AnyItems.{AnyItems}
use Rattle.rtrb.specs.declared.producer.Producer.{Producer}
use Rattle.rtrb.specs.declared.consumer.Consumer.{Consumer}
use Rattle.rtrb.specs.Ring.{sent, received, consumer_capacity, IsPair}
use Rattle.link_edge.specs.Links.{Meaning, NoneFell}
use Rattle.link_edge.specs.declared.answers.End.{End}
use Rattle.link_edge.specs.declared.answers.End.TheVariants as ends
use Rattle.link_pump.specs.declared.cause.Cause.{Cause}
use Rattle.link_pump.specs.declared.cause.Cause.TheVariants as cause
use Rattle.link_pump.specs.declared.rings.FromLink.{FromLink}
use Rattle.link_pump.specs.declared.rings.ToLink.{ToLink}
use Rattle.link_pump.specs.Rings.{heard_in, cause_in, lines_in, finishes, marked_last}

-- nothing was pushed, the ring of messages has 64 places, and there is room for 66 messages
pub record AreFresh (messages : Producer FromLink Global AnyItems) (from_link : Consumer FromLink Global AnyItems) (to_link : Producer ToLink Global AnyItems) (lines : Consumer ToLink Global AnyItems)
    (unapplied : Vec (List ℕ) Global) : Type 0 where
  pub messages_pair : IsPair messages from_link
  pub lines_pair : IsPair to_link lines
  pub no_messages : (sent messages ≡ []) × (received from_link ≡ [])
  pub no_lines : (sent to_link ≡ []) × (received lines ≡ [])
  pub places : consumer_capacity from_link ≡ 64
  pub room : (unapplied.items ≡ []) × (66 ≤ vec_capacity unapplied)

-- the messages that were popped are those that were asked, and then those that were not applied; the lines were pushed, and then one
-- last mark; and the link was closed or broken where the mark that was popped says so
pub record IsSide (messages : Consumer FromLink Global AnyItems) (lines : Producer ToLink Global AnyItems) (asked unapplied pushed : List (List ℕ)) (end : End) : Type 0 where
  pub read : heard_in (received messages) ≡ asked ++ unapplied
  pub few : length unapplied ≤ 1
  pub all_applied : end ≢ ends.Bye → end ≢ ends.NoMemory → unapplied ≡ []
  pub ended : finishes (sent lines) ≡ true
  pub once : marked_last (sent lines) ≡ true
  pub pushed_are : lines_in (sent lines) ≡ pushed
  pub closed : end ≡ ends.Closed → cause_in (received messages) ≡ Some cause.Closed
  pub failed : end ≡ ends.Failed → cause_in (received messages) ≡ Some cause.Failed

-- how a connection ended: as its session's side did, unless memory ran out at the link's
abbrev pub end_in_two : End → Option Cause → End
end_in_two end None = end
end_in_two end (Some cause.Closed) = end
end_in_two end (Some cause.Failed) = end
end_in_two end (Some cause.NoMemory) = ends.NoMemory

-- what passed through a link that meant the first and now means the second, by what was asked for it, and why it ended
pub record Passes (start now : Meaning) (asked unapplied sent unsent : List (List ℕ)) (end : End) : Type 0 where
  -- what was sent is what was made for it; something made was not sent only where the link ended or failed or memory ran out
  pub sent_is : Appends start.sent now.sent sent
  pub all_sent : (unsent ≡ []) ⊎ (Rose start.ends now.ends ⊎ (Rose start.faults now.faults ⊎ (end ≡ ends.NoMemory)))
  -- what was received is what was asked, and then what was not
  pub read : Appends start.received now.received (asked ++ unapplied)
  pub all_applied : end ≢ ends.Bye → end ≢ ends.NoMemory → unapplied ≡ []
  pub closed : end ≡ ends.Closed → Rose start.ends now.ends
  pub failed : end ≡ ends.Failed → Rose start.faults now.faults
  pub counts : NoneFell start now
  pub shut : now.shut ≡ start.shut
