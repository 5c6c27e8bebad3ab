-- What was sent over a link of the lines made for it, and why a link is no longer used.
use Rattle.std.specs.Prelude.{◌≡◌, ◌≢◌, ◌⊎◌, ℕ, false, List, [], ◌∷◌, ◌++◌, Option, None, Some}
use Rattle.io_edge.specs.Faults.{Rose}
use Rattle.io_edge.specs.Taken.{Appends}
use Rattle.link_edge.specs.Links.{Meaning, NoneFell}
use Rattle.link_pump.specs.declared.cause.Cause.{Cause}
use Rattle.link_pump.specs.declared.cause.Cause.TheVariants.{Closed, Failed, NoMemory}
use Rattle.link_pump.specs.declared.outlet.Outlet.{Outlet}

-- of the lines that were made, in order, some were sent, some kept, and the rest lost; none is kept while the link is in use, and none
-- lost unless memory ran out
pub record Delivered {L : Type 0} (start now : Meaning) (o : Outlet L) (made : List (List ℕ)) : Type 0 where
  pub sent_is : Appends start.sent now.sent o.sent.items
  pub lines : (lost : List (List ℕ)) × (made ≡ (o.sent.items ++ o.unsent.items) ++ lost) × (o.over ≢ Some NoMemory → lost ≡ [])
  pub unsent : o.over ≡ None → o.unsent.items ≡ []
  pub counts : NoneFell start now
  pub shut : now.shut ≡ start.shut
  pub closed : o.over ≡ Some Closed → Rose start.ends now.ends
  pub failed : o.over ≡ Some Failed → Rose start.faults now.faults

-- the same of a link that is shut, as it was before
abbrev pub opened : Meaning → Meaning
opened link = record link { shut = false }

-- what a poll without a message adds to the polls: nothing has come, where the link is still in use
abbrev pub polled_without : Option Cause → List (Option (List ℕ))
polled_without None = None ∷ []
polled_without (Some cause) = []

-- what sending leaves of why a link is over: it is not closed by it, and once it is over, it stays so, or memory runs out
abbrev pub Lasts : Option Cause → Option Cause → Type 0
Lasts None new = new ≢ Some Closed
Lasts (Some cause) new = (new ≡ Some cause) ⊎ (new ≡ Some NoMemory)
