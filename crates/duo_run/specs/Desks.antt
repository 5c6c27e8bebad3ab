-- A connection while it is served: what was sent of the lines made, and what was done of what was read.
use Rattle.std.specs.Prelude.{◌≡◌, ◌≢◌, ◌≤◌, ℕ, Bool, true, false, List, [], ◌∷◌, ◌++◌, Option, None, Some, length, vec_capacity}
use Rattle.io_edge.specs.Taken.{Appends}
use Rattle.link_edge.specs.Links.{Meaning}
use Rattle.link_edge.specs.declared.answers.End.{End}
use Rattle.link_edge.specs.declared.answers.End.TheVariants as ends
use Rattle.link_pump.specs.declared.cause.Cause.{Cause}
use Rattle.link_pump.specs.declared.cause.Cause.TheVariants.{Closed, Failed, NoMemory}
use Rattle.link_pump.specs.Outlets.{Delivered, polled_without}
use Rattle.duo_run.specs.declared.desk.Desk.{Desk}
use Rattle.duo_run.specs.Deeds.{Deed, requests_in}
use Rattle.duo_run.specs.Polls.{Poll}
use Rattle.duo_run.specs.Journals.{deeds_of}

-- by these polls these deeds were done, and these messages that were read are not dealt with yet; these lines were made
pub record Held {L : Type 0} (start now : Meaning) (d : Desk L) (polls : List Poll) (deeds : List Deed) (taken made : List (List ℕ)) : Type 0 where
  pub polls_are : Appends start.polls now.polls polls
  pub deeds_are : deeds_of d.journal.events.items ≡ deeds
  pub read : Appends start.received now.received ((requests_in deeds ++ d.unapplied.items) ++ taken)
  pub delivered : Delivered start now d.outlet made

-- a poll after these gave no request that can be applied: there was nothing, or the link is over, or memory ran out for it
pub data NoRequest {L : Type 0} (start now : Meaning) (d : Desk L) (polls : List Poll) (deeds : List Deed) (made : List (List ℕ)) : Type 0 where
  none : Held start now d (polls ++ polled_without d.outlet.over) deeds [] made → NoRequest start now d polls deeds made
  starved : (text : List ℕ) → d.outlet.over ≡ Some NoMemory → Held start now d (polls ++ Some text ∷ []) deeds [] made → NoRequest start now d polls deeds made

-- everything that was read was applied, unless memory ran out; there is room for a message that is not, while the link is in use; and
-- there is no more than one
abbrev pub HasRoom : {L : Type 0} → Desk L → Type 0
HasRoom d = (d.outlet.over ≢ Some NoMemory → d.unapplied.items ≡ []) × (d.outlet.over ≡ None → 1 ≤ vec_capacity d.unapplied) × (length d.unapplied.items ≤ 1)

-- how a connection ended, by whether its client left, and why its link is over
abbrev pub end_of : Bool → Option Cause → End
end_of left (Some NoMemory) = ends.NoMemory
end_of true (Some Closed) = ends.Bye
end_of true (Some Failed) = ends.Bye
end_of true None = ends.Bye
end_of false (Some Closed) = ends.Closed
end_of false (Some Failed) = ends.Failed
end_of false None = ends.Bye
