-- Clients of a hub while they are served: what was read of each, and what was sent of the lines that were made for it.
use Rattle.std.specs.Prelude.{◌≡◌, ◌≢◌, ◌≤◌, ℕ, zero, suc, Bool, true, false, List, [], ◌∷◌, ◌++◌, Option, None, Some, ⊤, length, vec_capacity}
use Rattle.io_edge.specs.Taken.{Appends}
use Rattle.link_edge.specs.Links.{Meaning}
use Rattle.link_pump.specs.declared.cause.Cause.{Cause}
use Rattle.link_pump.specs.declared.cause.Cause.TheVariants.{NoMemory}
use Rattle.link_pump.specs.Outlets.{Delivered}
use Rattle.hub_core.specs.declared.client.Client.{Client}
use Rattle.hub_core.specs.declared.line.Line.{Line}
use Rattle.hub_core.specs.HubJournals.{at_client}

-- From a link that meant the first, and now means the second: the lines that were made were delivered; and what was read is what was asked,
-- and then a message that is not applied, where memory ran out.
pub record ClientFits {L : Type 0} (start now : Meaning) (c : Client L) (asked made : List (List ℕ)) : Type 0 where
  pub delivered : Delivered start now c.outlet made
  pub read : Appends start.received now.received (asked ++ c.unapplied.items)

-- there is room for a message that is not applied while the link is in use, and none that is not applied unless memory ran out, and then
-- at most one
abbrev pub HasPlace : {L : Type 0} → Client L → Type 0
HasPlace c = (c.outlet.over ≢ Some NoMemory → c.unapplied.items ≡ []) × (c.outlet.over ≡ None → 1 ≤ vec_capacity c.unapplied) × (length c.unapplied.items ≤ 1)

-- nothing of any client
abbrev pub nothing : ℕ → List (List ℕ)
nothing j = []

-- the same of each, from this number on: asked and made tell by the client's number
unfoldable pub AllFit : {L : Type 0} → (L → Meaning) → ℕ → (ℕ → List (List ℕ)) → (ℕ → List (List ℕ)) → List Meaning → List (Client L) → Type 0
AllFit m k asked made [] [] = ⊤
AllFit m k asked made (a ∷ starts) (c ∷ cs) = ClientFits a (m c.outlet.link) c (asked k) (made k) × AllFit m (suc k) asked made starts cs
AllFit m k asked made [] (c ∷ cs) = ⊥
AllFit m k asked made (a ∷ starts) [] = ⊥

-- each can be used
unfoldable pub AllUsable : {L : Type 0} → (L → Meaning) → List (Client L) → Type 0
AllUsable m [] = ⊤
AllUsable m (c ∷ cs) = HasPlace c × ((m c.outlet.link).shut ≡ false) × AllUsable m cs

-- those of lines that are told to a client
unfoldable pub lines_to : ℕ → List Line → List (List ℕ)
lines_to k [] = []
lines_to k (l ∷ ls) = at_client l.client k (l.text ∷ []) ++ lines_to k ls

-- the client of this number is in use
abbrev pub is_open : Option Cause → Bool
is_open None = true
is_open (Some cause) = false

unfoldable pub open_at : {L : Type 0} → ℕ → List (Client L) → Bool
open_at k [] = false
open_at zero (c ∷ cs) = is_open c.outlet.over
open_at (suc k) (c ∷ cs) = open_at k cs
