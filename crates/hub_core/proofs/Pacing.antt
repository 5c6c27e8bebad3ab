-- Turns that are owed to clients, when something more is done.
use Rattle.std.proofs.Common.{◌≡◌, ◌≢◌, ◌+◌, ◌≤◌, ℕ, Bool, true, false, List, [], ◌∷◌, ◌++◌, refl, ◌∙◌, if◌then◌else◌, nat_eq, inl, inr, arith}
use Rattle.std.proofs.lemmas.Bool.Decides.{eqb_tells}
use Rattle.world_core.specs.World.{World}
use Rattle.machine_core.specs.Reading.{Reader}
use Rattle.machine_core.specs.Machine.{Machine, is_running}
use Rattle.link_edge.specs.Links.{Meaning}
use Rattle.hub_core.specs.declared.client.Client.{Client}
use Rattle.hub_core.specs.declared.event.HubEvent.{HubEvent}
use Rattle.hub_core.specs.Hubs.{HubState, after_ask_in}
use Rattle.hub_core.specs.HubJournals.{HubDeed, Asks, Leaves, Goes, hub_deeds, after_hub_deed, after_hub_deeds}
use Rattle.hub_core.specs.Rounds.{HubHeld, TurnAdded, asked_deeds}
use Rattle.hub_core.specs.Paces.{nobody, and_one, while_running, owed_after, owed_by, may_come, is_paced, HubPaced}
use Rattle.hub_core.proofs.Noting.{both, both_hold, deeds_turn}

other_eq : (i j : ℕ) → i ≢ j → nat_eq i j ≡ false
other_eq i j apart = elim (eqb_tells i j) [
  | inl p ↦ absurd (apart p.1)
  | inr p ↦ p.0
]

if_same : (b : Bool) → (if b then false else false) ≡ false
if_same true = refl
if_same false = refl

running_none : (m : Machine) (owed : ℕ → Bool) (k : ℕ) → owed k ≡ false → while_running m owed k ≡ false
running_none m owed k e = rw e (if_same (is_running m.motion))

one_none : (client : ℕ) (owed : ℕ → Bool) (k : ℕ) → client ≢ k → owed k ≡ false → and_one client owed k ≡ false
one_none client owed k apart e = rw (other_eq client k apart, e) refl

module _ (read : Reader) (w : World) where
  owed_append : (s : HubState) (owed : ℕ → Bool) (xs ys : List HubDeed) (k : ℕ) → owed_by read w s owed (xs ++ ys) k ≡ owed_by read w (after_hub_deeds read w s xs) (owed_by read w s owed xs) ys k
  unfolding owed_by after_hub_deeds
  owed_append s owed [] ys k = refl
  owed_append s owed (x ∷ xs) ys k = owed_append (after_hub_deed read w s x) (owed_after read w s owed x) xs ys k

  paced_append : (s : HubState) (owed : ℕ → Bool) (xs ys : List HubDeed) → is_paced read w s owed xs ≡ true → is_paced read w (after_hub_deeds read w s xs) (owed_by read w s owed xs) ys ≡ true → is_paced read w s owed (xs ++ ys) ≡ true
  unfolding owed_by after_hub_deeds is_paced
  paced_append s owed [] ys p q = q
  paced_append s owed (x ∷ xs) ys p q =
      let here = both (may_come owed x) _ p in
      both_hold _ _ here.0 (paced_append (after_hub_deed read w s x) (owed_after read w s owed x) xs ys here.1 q)

  -- where the machine does not run, no turn is owed
  owed_idle : (s : HubState) (owed : ℕ → Bool) (ds : List HubDeed) (k : ℕ) → (is_running s.machine.motion ≡ false → owed k ≡ false) → is_running (after_hub_deeds read w s ds).machine.motion ≡ false → owed_by read w s owed ds k ≡ false
  unfolding owed_by after_hub_deeds
  owed_idle s owed [] k free idle = free idle
  owed_idle s owed (Asks c t ∷ ds) k free idle = owed_idle (after_ask_in read w s t) (owed_after read w s owed (Asks c t)) ds k (λ e. rw e refl) idle
  owed_idle s owed (Leaves c ∷ ds) k free idle = owed_idle (after_hub_deed read w s (Leaves c)) (owed_after read w s owed (Leaves c)) ds k (λ e. rw e refl) idle
  owed_idle s owed (Goes ∷ ds) k free idle = owed_idle (after_hub_deed read w s Goes) (owed_after read w s owed Goes) ds k (λ e. refl) idle

  pub paced_weaker : (first : HubState) (es : List HubEvent) (k l : ℕ) → k ≤ l → HubPaced read w first es k → HubPaced read w first es l
  paced_weaker first es k l low was = record { paced = was.paced; free = λ j high. was.free j (omega (arith, low, high)) }

  pub paced_start : (first : HubState) (es : List HubEvent) → es ≡ [] → HubPaced read w first es 0
  unfolding hub_deeds is_paced owed_by
  paced_start first es e = rw e (record { paced = refl; free = λ j low. refl })

  -- a client asked
  pub paced_ask : (first : HubState) (old new : List HubEvent) (b : Bool) (k : ℕ) (t : List ℕ) → hub_deeds new ≡ hub_deeds old ++ asked_deeds b k t → HubPaced read w first old k → HubPaced read w first new (k + 1)
  unfolding owed_by is_paced
  paced_ask first old new true k t e was =
      let owed = owed_by read w first nobody (hub_deeds old) in
      let stage = after_hub_deeds read w first (hub_deeds old) in
      let free : owed k ≡ false = was.free k (omega arith) in
      record {
        paced = rw e (paced_append first nobody (hub_deeds old) (asked_deeds true k t) was.paced (rw free refl));
        free = λ j high.
            let apart : k ≢ j = λ is. absurd (omega (arith, high, is)) in
            rw e (owed_append first nobody (hub_deeds old) (asked_deeds true k t) j
            ∙ running_none (after_ask_in read w stage t).machine (while_running (after_ask_in read w stage t).machine (and_one k owed)) j
            (running_none (after_ask_in read w stage t).machine (and_one k owed) j (one_none k owed j apart (was.free j (omega (arith, high))))));
      }
  paced_ask first old new false k t e was =
      let owed = owed_by read w first nobody (hub_deeds old) in
      let stage = after_hub_deeds read w first (hub_deeds old) in
      let free : owed k ≡ false = was.free k (omega arith) in
      record {
        paced = rw e (paced_append first nobody (hub_deeds old) (asked_deeds false k t) was.paced (rw free refl));
        free = λ j high.
            let apart : k ≢ j = λ is. absurd (omega (arith, high, is)) in
            rw e (owed_append first nobody (hub_deeds old) (asked_deeds false k t) j
            ∙ running_none (after_ask_in read w stage t).machine (and_one k owed) j (one_none k owed j apart (was.free j (omega (arith, high)))));
      }

  -- a client left
  pub paced_left : (first : HubState) (old new : List HubEvent) (c k : ℕ) → hub_deeds new ≡ hub_deeds old ++ Leaves c ∷ [] → HubPaced read w first old k → HubPaced read w first new k
  unfolding owed_by is_paced
  paced_left first old new c k e was =
      let owed = owed_by read w first nobody (hub_deeds old) in
      let stage = after_hub_deeds read w first (hub_deeds old) in
      record {
        paced = rw e (paced_append first nobody (hub_deeds old) (Leaves c ∷ []) was.paced refl);
        free = λ j high. rw e (owed_append first nobody (hub_deeds old) (Leaves c ∷ []) j ∙ running_none stage.machine owed j (was.free j high));
      }

  -- a turn was made
  pub paced_turn : (first : HubState) (old new : List HubEvent) (k : ℕ) → TurnAdded old new → HubPaced read w first old k → HubPaced read w first new 0
  unfolding owed_by is_paced
  paced_turn first old new k added was =
      let e = deeds_turn old new added in
      record {
        paced = rw e (paced_append first nobody (hub_deeds old) (Goes ∷ []) was.paced refl);
        free = λ j high. rw e (owed_append first nobody (hub_deeds old) (Goes ∷ []) j);
      }

  -- none was made, as the machine does not run
  pub paced_idle : {L : Type 0} (m : L → Meaning) (first stage : HubState) (starts : List Meaning) (cs : List (Client L)) (es : List HubEvent) (taken : ℕ → List (List ℕ)) (k : ℕ) → HubHeld m read w first starts stage cs es taken
      → is_running stage.machine.motion ≡ false → HubPaced read w first es k → HubPaced read w first es 0
  paced_idle m first stage starts cs es taken k held idle was = record {
    paced = was.paced;
    free = λ j high. owed_idle first nobody (hub_deeds es) j (λ e. refl) (rw (← held.state_is) idle);
  }
