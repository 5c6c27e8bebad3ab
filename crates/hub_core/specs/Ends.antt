-- How clients are given back that were served: what passed through each one's link, by what it asked and the lines made for it, and why it ended.
use Rattle.std.specs.Prelude.{◌≡◌, ◌≢◌, ◌≤◌, ◌⊎◌, not, ℕ, suc, Bool, true, false, List, [], ◌∷◌, ◌++◌, Option, None, Some, ⊤, length, slice_index_or}
use Rattle.io_edge.specs.Faults.{Rose}
use Rattle.io_edge.specs.Taken.{Appends}
use Rattle.link_edge.specs.Links.{Meaning, NoneFell, after_close}
use Rattle.link_edge.specs.declared.answers.End.{End}
use Rattle.link_edge.specs.declared.answers.End.TheVariants as ends
use Rattle.link_pump.specs.declared.cause.Cause.{Cause}
use Rattle.link_pump.specs.declared.cause.Cause.TheVariants.{Closed, Failed, NoMemory}
use Rattle.hub_core.specs.declared.client.Client.{Client}
use Rattle.hub_core.specs.declared.served.ClientEnd.{ClientEnd}

-- by whether it took its leave, and why its link is over; one that is still here where the hub ends ended for want of memory
abbrev pub end_of : Bool → Option Cause → End
end_of took (Some NoMemory) = ends.NoMemory
end_of true (Some Closed) = ends.Bye
end_of true (Some Failed) = ends.Bye
end_of true None = ends.Bye
end_of false (Some Closed) = ends.Closed
end_of false (Some Failed) = ends.Failed
end_of false None = ends.NoMemory

abbrev pub client_end : {L : Type 0} → Bool → Client L → ClientEnd
client_end took c = record { unapplied = c.unapplied; sent = c.outlet.sent; unsent = c.outlet.unsent; end = end_of took c.outlet.over }

-- a link is shut where its client left
abbrev pub shut_unless : Bool → Meaning → Meaning
shut_unless true link = link
shut_unless false link = after_close link

-- what is given back of clients from this number on, of which these are here and these took their leave
unfoldable pub ends_from : {L : Type 0} → List Bool → ℕ → List (Client L) → List ClientEnd
ends_from byes k [] = []
ends_from byes k (c ∷ cs) = client_end (slice_index_or byes k false) c ∷ ends_from byes (suc k) cs

unfoldable pub links_from : {L : Type 0} → (L → Meaning) → List Bool → ℕ → List (Client L) → List Meaning
links_from m here k [] = []
links_from m here k (c ∷ cs) = shut_unless (slice_index_or here k false) (m c.outlet.link) ∷ links_from m here (suc k) cs

-- ---- what a client was served

-- From a link that meant the first, and now means the second: by what its client asked in the journal, its lines by the journal, whether it
-- took its leave, and whether it is here.
pub record ClientServed (start now : Meaning) (e : ClientEnd) (asked lines : List (List ℕ)) (took here : Bool) : Type 0 where
  -- its lines were sent, and then kept; some are lost, or were not sent, only where memory ran out, or the link ended or failed
  pub output : (lost : List (List ℕ)) × (lines ≡ (e.sent.items ++ e.unsent.items) ++ lost) × (e.end ≢ ends.NoMemory → lost ≡ [])
  pub sent_is : Appends start.sent now.sent e.sent.items
  pub all_sent : (e.unsent.items ≡ []) ⊎ (Rose start.ends now.ends ⊎ (Rose start.faults now.faults ⊎ (e.end ≡ ends.NoMemory)))
  -- what was received is what it asked, and then what was not applied
  pub read : Appends start.received now.received (asked ++ e.unapplied.items)
  pub all_applied : e.end ≢ ends.Bye → e.end ≢ ends.NoMemory → e.unapplied.items ≡ []
  -- why it ended
  pub bye : e.end ≡ ends.Bye → took ≡ true
  pub took_leave : took ≡ true → (e.end ≡ ends.Bye) ⊎ (e.end ≡ ends.NoMemory)
  pub closed : e.end ≡ ends.Closed → Rose start.ends now.ends
  pub failed : e.end ≡ ends.Failed → Rose start.faults now.faults
  pub counts : NoneFell start now
  pub shut : now.shut ≡ not here

-- each of them, from this number on
unfoldable pub AllServed : ℕ → (ℕ → List (List ℕ)) → (ℕ → List (List ℕ)) → (ℕ → Bool) → (ℕ → Bool) → List Meaning → List Meaning → List ClientEnd → Type 0
AllServed k asked lines took here [] [] [] = ⊤
AllServed k asked lines took here (a ∷ starts) (b ∷ nows) (e ∷ es) = ClientServed a b e (asked k) (lines k) (took k) (here k) × AllServed (suc k) asked lines took here starts nows es
AllServed k asked lines took here [] (b ∷ nows) es = ⊥
AllServed k asked lines took here [] [] (e ∷ es) = ⊥
AllServed k asked lines took here (a ∷ starts) [] es = ⊥
AllServed k asked lines took here (a ∷ starts) (b ∷ nows) [] = ⊥

-- nothing is read in lock step that is not applied, but for one message where memory ran out
pub record IsApplied (e : ClientEnd) : Type 0 where
  pub few : length e.unapplied.items ≤ 1
  pub all : e.end ≢ ends.NoMemory → e.unapplied.items ≡ []

-- of each of them
unfoldable pub AllApplied : List ClientEnd → Type 0
AllApplied [] = ⊤
AllApplied (e ∷ es) = IsApplied e × AllApplied es

-- none of them is shut
unfoldable pub AllOpen : List Meaning → Type 0
AllOpen [] = ⊤
AllOpen (a ∷ rest) = (a.shut ≡ false) × AllOpen rest
