-- The lines of one client, without the others.
use Rattle.std.proofs.Common.{◌≡◌, ◌≢◌, ◌<◌, ◌+◌, arith, ℕ, zero, suc, Bool, true, false, List, [], ◌∷◌, ◌++◌, map, refl, sym, ◌∙◌, ap, ap₂, append-nil, set, get_or, nat_eq, inl, inr, if◌then◌else◌}
use Rattle.std.proofs.lemmas.Bool.Decides.{eqb_tells}
use Rattle.std.proofs.lemmas.List.{map-append}
use Rattle.world_core.specs.World.{World}
use Rattle.machine_core.specs.Reading.{Reader}
use Rattle.machine_core.specs.Machine.{turn_of}
use Rattle.machine_core.specs.Journal as core
use Rattle.machine_core.specs.Journal.{Replied}
use Rattle.req_json.specs.Texts.{line_text, texts_of}
use Rattle.link_edge.specs.Links.{Meaning}
use Rattle.hub_core.specs.declared.client.Client.{Client}
use Rattle.hub_core.specs.declared.event.HubEvent.{HubEvent}
use Rattle.hub_core.specs.Hubs.{HubState, line, is_here, gone, answer_in, after_ask_in, for_one, to_each, told_of_turn, turned}
use Rattle.hub_core.specs.HubJournals.{HubDeed, Asks, Leaves, Goes, hub_deeds, at_client, asks_of, client_lines, after_hub_deeds, is_proper}
use Rattle.hub_core.specs.Clients.{AllFit, lines_to, nothing}
use Rattle.hub_core.specs.Rounds.{hub_lines, HubHeld}
use Rattle.hub_core.proofs.Crowding.{at_self, at_other, lines_append}

all_other : (k p : ℕ) (texts : List (List ℕ)) → k ≢ p → lines_to p (map (line k) texts) ≡ []
unfolding lines_to
all_other k p [] apart = refl
all_other k p (t ∷ texts) apart = ap₂ (λ x y. x ++ y) (at_other k p (t ∷ []) apart) (all_other k p texts apart)

all_self : (k : ℕ) (texts : List (List ℕ)) → lines_to k (map (line k) texts) ≡ texts
unfolding lines_to
all_self k [] = refl
all_self k (t ∷ texts) = ap₂ (λ x y. x ++ y) (at_self k (t ∷ [])) (all_self k texts)

for_other : (b : Bool) (k p : ℕ) (texts : List (List ℕ)) → k ≢ p → lines_to p (for_one b (map (line k) texts)) ≡ []
unfolding lines_to
for_other true k p texts apart = all_other k p texts apart
for_other false k p texts apart = refl

for_self : (b : Bool) (k : ℕ) (texts : List (List ℕ)) → lines_to k (for_one b (map (line k) texts)) ≡ (if b then texts else [])
unfolding lines_to
for_self true k texts = all_self k texts
for_self false k texts = refl

-- clients before the first are told nothing
none_before : (here : List Bool) (k p : ℕ) (texts : List (List ℕ)) → p < k → lines_to p (to_each k here texts) ≡ []
unfolding lines_to to_each
none_before [] k p texts low = refl
none_before (b ∷ here) k p texts low =
    lines_append p (for_one b (map (line k) texts)) (to_each (suc k) here texts) ∙ ap₂ (λ x y. x ++ y) (for_other b k p texts (λ e. absurd (omega (arith, low, e)))) (none_before here (suc k) p texts (omega (arith, low)))

each_told : (here : List Bool) (k p j : ℕ) (texts : List (List ℕ)) → p ≡ k + j → lines_to p (to_each k here texts) ≡ (if get_or here j false then texts else [])
unfolding lines_to to_each
each_told [] k p j texts at = refl
each_told (b ∷ here) k p zero texts at =
    let same : p ≡ k = omega (arith, at) in
    lines_append p (for_one b (map (line k) texts)) (to_each (suc k) here texts) ∙ ap₂ (λ x y. x ++ y) (ap (λ q. lines_to q (for_one b (map (line k) texts))) same ∙ for_self b k texts) (none_before here (suc k) p texts (omega (arith, at)))
    ∙ append-nil (if b then texts else [])
each_told (b ∷ here) k p (suc j) texts at =
    lines_append p (for_one b (map (line k) texts)) (to_each (suc k) here texts) ∙ ap₂ (λ x y. x ++ y) (for_other b k p texts (λ e. absurd (omega (arith, at, e)))) (each_told here (suc k) p j texts (omega (arith, at)))

pub suc_eq : (c j : ℕ) → nat_eq (suc c) (suc j) ≡ nat_eq c j
suc_eq c j = elim (eqb_tells c j) [
  | inl p ↦ elim (eqb_tells (suc c) (suc j)) [
    | inl q ↦ q.0 ∙ sym p.0
    | inr q ↦ absurd (q.1 (ap suc p.1))
  ]
  | inr p ↦ elim (eqb_tells (suc c) (suc j)) [
    | inl q ↦ absurd (p.1 (let e = q.1 in omega (arith, e)))
    | inr q ↦ q.0 ∙ sym p.0
  ]
]

pub zero_eq : (j : ℕ) → nat_eq zero (suc j) ≡ false
zero_eq j = elim (eqb_tells zero (suc j)) [
  | inl p ↦ absurd (let e = p.1 in omega (arith, e))
  | inr p ↦ p.0
]

pub eq_zero : (c : ℕ) → nat_eq (suc c) zero ≡ false
eq_zero c = elim (eqb_tells (suc c) zero) [
  | inl p ↦ absurd (let e = p.1 in omega (arith, e))
  | inr p ↦ p.0
]

pub gone_one : (here : List Bool) (c j : ℕ) → get_or (set here c false) j false ≡ (if nat_eq c j then false else get_or here j false)
gone_one [] c j = same (nat_eq c j)
  where
    same : (b : Bool) → false ≡ (if b then false else false)
    same true = refl
    same false = refl
gone_one (b ∷ here) zero zero = refl
gone_one (b ∷ here) zero (suc j) = ap (λ e. if e then false else get_or here j false) (sym (zero_eq j))
gone_one (b ∷ here) (suc c) zero = ap (λ e. if e then false else b) (sym (eq_zero c))
gone_one (b ∷ here) (suc c) (suc j) = gone_one here c j ∙ ap (λ e. if e then false else get_or here j false) (sym (suc_eq c j))

text_at : (b : Bool) (l : core.Line) → (if b then line_text l ∷ [] else []) ≡ texts_of (if b then l ∷ [] else [])
text_at true l = refl
text_at false l = refl

texts_if : (b : Bool) (ls : List core.Line) → (if b then texts_of ls else []) ≡ texts_of (if b then ls else [])
texts_if true ls = refl
texts_if false ls = refl

module _ (read : Reader) (w : World) where
  pub lines_are : (j : ℕ) (s : HubState) (ds : List HubDeed) → lines_to j (hub_lines read w s ds) ≡ texts_of (client_lines read w j (is_here s j) s.machine ds)
  unfolding lines_to hub_lines client_lines
  lines_are j s [] = refl
  lines_are j s (Asks c t ∷ ds) =
      ap₂ (λ x y. x ++ y) (text_at (nat_eq c j) (Replied (answer_in read w s.machine t).reply)) (lines_are j (after_ask_in read w s t) ds)
      ∙ sym (map-append line_text (at_client c j (Replied (answer_in read w s.machine t).reply ∷ [])) (client_lines read w j (is_here s j) (answer_in read w s.machine t).after ds))
  lines_are j s (Leaves c ∷ ds) = lines_are j (gone c s) ds ∙ ap (λ b. texts_of (client_lines read w j b s.machine ds)) (gone_one s.here c j)
  lines_are j s (Goes ∷ ds) =
      lines_append j (turned w s).lines (hub_lines read w (turned w s).after ds)
      ∙ ap₂ (λ x y. x ++ y) (each_told s.here 0 j j (texts_of (told_of_turn w s.machine)) (omega arith) ∙ texts_if (is_here s j) (told_of_turn w s.machine)) (lines_are j (turned w s).after ds)
      ∙ sym (map-append line_text (if is_here s j then told_of_turn w s.machine else []) (client_lines read w j (is_here s j) (turn_of w s.machine).after ds))

-- ---- a hub from start to end

pub held_start : {L : Type 0} (m : L → Meaning) (read : Reader) (w : World) (first : HubState) (starts : List Meaning) (cs : List (Client L)) (es : List HubEvent) → es ≡ [] → AllFit m 0 nothing nothing starts cs
    → HubHeld m read w first starts first cs es nothing
unfolding hub_deeds after_hub_deeds is_proper asks_of hub_lines lines_to
held_start m read w first starts cs es e all = rw e (record { state_is = refl; proper = refl; fit = all })
