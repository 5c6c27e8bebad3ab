-- What the session's side leaves of a client: what was popped and pushed, by what its client asked in the journal and its lines by the journal.
use Rattle.std.specs.Prelude.{◌≡◌, ◌≢◌, ◌≤◌, ◌⊎◌, not, ℕ, suc, Bool, true, List, [], ◌∷◌, ◌++◌, ⊤, Option, None, Some, length}
use Rattle.rtrb.specs.Ring.{sent, received}
use Rattle.link_edge.specs.Links.{Meaning}
use Rattle.link_edge.specs.declared.answers.End.TheVariants as ended
use Rattle.link_pump.specs.declared.cause.Cause.TheVariants.{Closed, Failed}
use Rattle.link_pump.specs.declared.ends.Ends.{Ends}
use Rattle.link_pump.specs.Rings.{heard_in, lines_in}
use Rattle.hub_core.specs.declared.served.ClientEnd.{ClientEnd}
use Rattle.hub_core.specs.Ends.{ClientServed}
use Rattle.hub_run.specs.declared.port.Port.{Port}
use Rattle.hub_run.specs.declared.port.Port.TheVariants.{Far, Near}
use Rattle.hub_run.specs.Ports.{LinkPost, FarTied}

-- a client whose link is in a thread of its own and meant this at the start
pub record FarStands {R L : Type 0} (m : L → Meaning) (start : Meaning) (post : LinkPost L) (ends : Ends R) (e : ClientEnd) (asked lines : List (List ℕ)) (took here : Bool) : Type 0 where
  pub link_is : m post.child.promise.link.value ≡ start
  -- what was popped is what it asked, and then what was not applied; and what was sent was pushed
  pub read : heard_in (received ends.messages) ≡ asked ++ e.unapplied.items
  pub few : length e.unapplied.items ≤ 1
  pub all_applied : e.end ≢ ended.Bye → e.end ≢ ended.NoMemory → e.unapplied.items ≡ []
  pub pushed : lines_in (sent ends.lines) ≡ e.sent.items
  pub output : (lost : List (List ℕ)) × (lines ≡ (e.sent.items ++ e.unsent.items) ++ lost) × (e.end ≢ ended.NoMemory → lost ≡ [])
  -- why it ended
  pub bye : e.end ≡ ended.Bye → took ≡ true
  pub took_leave : took ≡ true → (e.end ≡ ended.Bye) ⊎ (e.end ≡ ended.NoMemory)
  pub closed : e.end ≡ ended.Closed → ends.over ≡ Some Closed
  pub failed : e.end ≡ ended.Failed → ends.over ≡ Some Failed
  pub shut : ends.shut ≡ not here

module _ {R L : Type 0} (m : L → Meaning) where
  -- a client whose link meant this at the start
  abbrev pub Stands : Meaning → Option (LinkPost L) → Port R L → ClientEnd → List (List ℕ) → List (List ℕ) → Bool → Bool → Type 0
  Stands start (Some post) (Far ends) e asked lines took here = FarStands m start post ends e asked lines took here
  Stands start None (Near link) e asked lines took here = ClientServed start (m link) e asked lines took here
  Stands start (Some post) (Near link) e asked lines took here = ⊥
  Stands start None (Far ends) e asked lines took here = ⊥

  -- each of them, from this number on
  unfoldable pub AllStand : ℕ → (ℕ → List (List ℕ)) → (ℕ → List (List ℕ)) → (ℕ → Bool) → (ℕ → Bool) → List Meaning → List (Option (LinkPost L)) → List (Port R L) → List ClientEnd → Type 0
  AllStand k asked lines took here [] [] [] [] = ⊤
  AllStand k asked lines took here (a ∷ starts) (p ∷ posts) (q ∷ ports) (e ∷ es) =
      Stands a p q e (asked k) (lines k) (took k) (here k) × AllStand (suc k) asked lines took here starts posts ports es
  AllStand k asked lines took here [] [] [] (e ∷ es) = ⊥
  AllStand k asked lines took here [] [] (q ∷ ports) es = ⊥
  AllStand k asked lines took here [] (p ∷ posts) ports es = ⊥
  AllStand k asked lines took here (a ∷ starts) [] ports es = ⊥
  AllStand k asked lines took here (a ∷ starts) (p ∷ posts) [] es = ⊥
  AllStand k asked lines took here (a ∷ starts) (p ∷ posts) (q ∷ ports) [] = ⊥

module _ {R L : Type 0} where
  -- a port goes with its thread, and at most one message of it was popped and not applied
  abbrev pub Ready : Option (LinkPost L) → Port R L → ClientEnd → Type 0
  Ready (Some post) (Far ends) e = FarTied post ends × (length e.unapplied.items ≤ 1)
  Ready None (Near link) e = ⊤
  Ready (Some post) (Near link) e = ⊥
  Ready None (Far ends) e = ⊥

  -- each of them
  unfoldable pub AllReady : List (Option (LinkPost L)) → List (Port R L) → List ClientEnd → Type 0
  AllReady [] [] [] = ⊤
  AllReady (p ∷ posts) (q ∷ ports) (e ∷ es) = Ready p q e × AllReady posts ports es
  AllReady [] [] (e ∷ es) = ⊥
  AllReady [] (q ∷ ports) es = ⊥
  AllReady (p ∷ posts) [] es = ⊥
  AllReady (p ∷ posts) (q ∷ ports) [] = ⊥
