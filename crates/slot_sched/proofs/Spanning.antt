-- The places of breakpoints at slots: how they grow, and that a breakpoint that stops at a slot has its place among those of the slot.
use Rattle.std.proofs.Common.{◌≡◌, ℕ, zero, suc, ◌+◌, ◌-◌, ◌<◌, ◌≤◌, ◌==◌, ◌&&◌, ◌||◌, min, Bool, true, false, List, [], ◌∷◌, ◌++◌, length, take, drop, filter, All, Option, Some, get_or, slice_get, nat_le, nat_lt, refl, sym, ap, ap₂, ◌∙◌, subst, inl, inr, arith, add-one, eqb-true, length-append}
use Rattle.std.specs.Prelude.{unwrap_or}
use Rattle.std.specs.List.{list_any}
use Rattle.std.proofs.lemmas.Bool.{and_from, and_parts, and_left, or_parts, or_from, cases_lt, false_from_ne_true}
use Rattle.std.proofs.lemmas.Option.{slice_get_cases}
use Rattle.std.proofs.lemmas.Bool.Decides.{nat_tests}
use Rattle.list_core.specs.Lists.{EachOf}
use Rattle.list_core.proofs.Lists.{each_map, each_append, each_from, each_member}
use Rattle.list_core.proofs.Listing.{either_true, get_last, filter_from}
use Rattle.list_core.proofs.Options.{some_same}
use Rattle.symtab.specs.declared.parts.TableParts.{TableParts}
use Rattle.bv_core.specs.declared.Sample.{Sample}
use Rattle.cond_lang.specs.declared.text.CondText.{CondText}
use Rattle.site_core.specs.declared.trap.Trap.{Trap}
use Rattle.slot_sched.specs.declared.armed.Armed.{Armed}
use Rattle.slot_sched.specs.declared.spans.Span.{Span}
use Rattle.slot_sched.specs.Spans.{no_span, span_of, holds, covers, are_covered, are_spanned, WaitBelow, AllWaitBelow}
use Rattle.slot_sched.specs.Armed.{IsTrap}
use Rattle.slot_sched.specs.Waiting.{trap_stops, armed_stops, any_stops}

-- ---- what more places keep

abbrev pub Keeps : (old new : List Span) → Type 0
Keeps old new = (k j : ℕ) → covers old k j ≡ true → covers new k j ≡ true

pub covered_kept : (old new : List Span) → Keeps old new → (j : ℕ) (traps : List Trap) → are_covered old j traps ≡ true → are_covered new j traps ≡ true
covered_kept old new keeps j [] e = refl
covered_kept old new keeps j (t ∷ traps) e =
    let parts = and_parts (covers old t.slot j) (are_covered old j traps) e in
    and_from (covers new t.slot j) (are_covered new j traps) (keeps t.slot j parts.0) (covered_kept old new keeps j traps parts.1)

pub spanned_kept : (old new : List Span) → Keeps old new → (j : ℕ) (armed : List Armed) → are_spanned old j armed ≡ true → are_spanned new j armed ≡ true
spanned_kept old new keeps j [] e = refl
spanned_kept old new keeps j (a ∷ armed) e =
    let parts = and_parts (are_covered old j a.traps.items) (are_spanned old (j + 1) armed) e in
    and_from (are_covered new j a.traps.items) (are_spanned new (j + 1) armed) (covered_kept old new keeps j a.traps.items parts.0) (spanned_kept old new keeps (j + 1) armed parts.1)

-- ---- one more

covered_next : (spans : List Span) (j : ℕ) (traps : List Trap) (i : ℕ) (t : Trap) → i < length traps → t ≡ get_or traps i t → are_covered spans j (take i traps) ≡ true → covers spans t.slot j ≡ true
    → are_covered spans j (take (suc i) traps) ≡ true
covered_next spans j [] i t within is e here = refl
covered_next spans j (x ∷ traps) zero t within is e here =
    and_from (covers spans x.slot j) true (subst (λ (u : Trap). covers spans u.slot j ≡ true) is here) refl
covered_next spans j (x ∷ traps) (suc i) t within is e here =
    let parts = and_parts (covers spans x.slot j) (are_covered spans j (take i traps)) e in
    and_from (covers spans x.slot j) (are_covered spans j (take (suc i) traps)) parts.0 (covered_next spans j traps i t (omega (arith, within)) is parts.1 here)

pub covered_more : (spans : List Span) (j : ℕ) (traps : List Trap) (i : ℕ) (t : Trap) → i < length traps → t ≡ get_or traps i t → are_covered spans j (take i traps) ≡ true → covers spans t.slot j ≡ true
    → are_covered spans j (take (i + 1) traps) ≡ true
covered_more spans j traps i t within is e here =
    subst (λ (n : ℕ). are_covered spans j (take n traps) ≡ true) (sym (add-one i)) (covered_next spans j traps i t within is e here)

spanned_next : (spans : List Span) (j : ℕ) (armed : List Armed) (i : ℕ) (a : Armed) → i < length armed → a ≡ get_or armed i a → are_spanned spans j (take i armed) ≡ true
    → are_covered spans (j + i) a.traps.items ≡ true → are_spanned spans j (take (suc i) armed) ≡ true
spanned_next spans j [] i a within is e here = refl
spanned_next spans j (x ∷ armed) zero a within is e here =
    let at : j + 0 ≡ j = omega arith in
    and_from (are_covered spans j x.traps.items) true (subst (λ (b : Armed). are_covered spans j b.traps.items ≡ true) is (subst (λ (n : ℕ). are_covered spans n a.traps.items ≡ true) at here)) refl
spanned_next spans j (x ∷ armed) (suc i) a within is e here =
    let at : j + suc i ≡ j + 1 + i = omega arith in
    let parts = and_parts (are_covered spans j x.traps.items) (are_spanned spans (j + 1) (take i armed)) e in
    and_from (are_covered spans j x.traps.items) (are_spanned spans (j + 1) (take (suc i) armed)) parts.0
    (spanned_next spans (j + 1) armed i a (omega (arith, within)) is parts.1 (subst (λ (n : ℕ). are_covered spans n a.traps.items ≡ true) at here))

pub spanned_more : (spans : List Span) (j : ℕ) (armed : List Armed) (i : ℕ) (a : Armed) → i < length armed → a ≡ get_or armed i a → are_spanned spans j (take i armed) ≡ true
    → are_covered spans (j + i) a.traps.items ≡ true → are_spanned spans j (take (i + 1) armed) ≡ true
spanned_more spans j armed i a within is e here =
    subst (λ (n : ℕ). are_spanned spans j (take n armed) ≡ true) (sym (add-one i)) (spanned_next spans j armed i a within is e here)

pub spanned_push : (spans : List Span) (j : ℕ) (armed : List Armed) (a : Armed) → are_spanned spans j armed ≡ true → are_covered spans (j + length armed) a.traps.items ≡ true → are_spanned spans j (armed ++ a ∷ []) ≡ true
spanned_push spans j [] a e here =
    let at : j + 0 ≡ j = omega arith in and_from (are_covered spans j a.traps.items) true (subst (λ (n : ℕ). are_covered spans n a.traps.items ≡ true) at here) refl
spanned_push spans j (x ∷ armed) a e here =
    let at : j + suc (length armed) ≡ j + 1 + length armed = omega arith in
    let parts = and_parts (are_covered spans j x.traps.items) (are_spanned spans (j + 1) armed) e in
    and_from (are_covered spans j x.traps.items) (are_spanned spans (j + 1) (armed ++ a ∷ [])) parts.0 (spanned_push spans (j + 1) armed a parts.1 (subst (λ (n : ℕ). are_covered spans n a.traps.items ≡ true) at here))

-- the last one, whose place is told by how many there are
pub spanned_last : (old new : List Span) → Keeps old new → (front : List Armed) (a last : Armed) (armed : List Armed) → armed ≡ front ++ a ∷ [] → Some last ≡ slice_get armed (length armed - 1)
    → are_covered new (length armed - 1) last.traps.items ≡ true → are_spanned old 0 front ≡ true → are_spanned new 0 armed ≡ true
spanned_last old new keeps front a last armed is found here e =
    let long : length armed ≡ length front + 1 = ap length is ∙ length-append front (a ∷ []) in
    let at : length armed - 1 ≡ length front = omega (arith, long) in
    let same : last ≡ a = some_same last a (found ∙ ap₂ (λ (l : List Armed) (n : ℕ). slice_get l n) is at ∙ get_last front a (length front) refl) in
    let covered : are_covered new (0 + length front) a.traps.items ≡ true =
    subst (λ (n : ℕ). are_covered new n a.traps.items ≡ true) (let z : length front ≡ 0 + length front = omega arith in z)
    (subst (λ (b : Armed). are_covered new (length front) b.traps.items ≡ true) same (subst (λ (n : ℕ). are_covered new n last.traps.items ≡ true) at here)) in
    subst (λ (l : List Armed). are_spanned new 0 l ≡ true) (sym is) (spanned_push new 0 front a (spanned_kept old new keeps 0 front e) covered)

-- ---- slots that have places

nowhere : (j : ℕ) → holds no_span j ≡ true → ⊥
nowhere j e = let parts = and_parts (nat_le 0 j) (nat_lt j 0) e in grind (arith, nat_tests)

pub covers_below : (spans : List Span) (k j : ℕ) → covers spans k j ≡ true → k < length spans
covers_below spans k j e = elim ((slice_get_cases spans k).1) [
  | inl there ↦ there.1
  | inr none ↦ absurd (nowhere j (subst (λ (o : Option Span). holds (unwrap_or o no_span) j ≡ true) none.1 e))
]

covered_below : (spans : List Span) (j : ℕ) (traps : List Trap) → are_covered spans j traps ≡ true → WaitBelow (length spans) traps
covered_below spans j [] e = tt
covered_below spans j (t ∷ traps) e =
    let parts = and_parts (covers spans t.slot j) (are_covered spans j traps) e in
    (covers_below spans t.slot j parts.0, covered_below spans j traps parts.1)

pub spanned_within : (spans : List Span) (j : ℕ) (armed : List Armed) → are_spanned spans j armed ≡ true → AllWaitBelow (length spans) armed
spanned_within spans j [] e = tt
spanned_within spans j (a ∷ armed) e =
    let parts = and_parts (are_covered spans j a.traps.items) (are_spanned spans (j + 1) armed) e in
    (covered_below spans j a.traps.items parts.0, spanned_within spans (j + 1) armed parts.1)

all_each : {A : Type 0} (P : A → Type 0) (xs : List A) → All P xs → EachOf P xs
all_each P [] h = tt
all_each P (x ∷ xs) h = (h 0 x (let l : 0 < suc (length xs) = omega arith in l), all_each P xs (λ i d l. h (suc i) d (let m : suc i < suc (length xs) = omega (arith, l) in m)))

-- what was armed for a table waits at its slots
pub trap_below : (parts : TableParts) (text : Option CondText) (count : ℕ) (traps : List Trap) → length parts.slots ≤ count → All (IsTrap parts text) traps → WaitBelow count traps
trap_below parts text count traps long h =
    each_map (IsTrap parts text) (λ t. t.slot < count) traps (λ t is. let l = is.slot in let m : t.slot < count = omega (arith, l, long) in m) (all_each (IsTrap parts text) traps h)

pub within_push : (spans : List Span) (armed items : List Armed) (a : Armed) → items ≡ armed ++ a ∷ [] → are_spanned spans 0 armed ≡ true → WaitBelow (length spans) a.traps.items → AllWaitBelow (length spans) items
within_push spans armed items a is e h =
    subst (λ (l : List Armed). AllWaitBelow (length spans) l) (sym is)
    (each_append (λ (b : Armed). WaitBelow (length spans) b.traps.items) armed (a ∷ []) (spanned_within spans 0 armed e) (h, tt))

pub within_filtered : (spans : List Span) (test : Armed → Bool) (armed items : List Armed) → items ≡ filter test armed → are_spanned spans 0 armed ≡ true → AllWaitBelow (length spans) items
within_filtered spans test armed items is e =
    let P = λ (b : Armed). WaitBelow (length spans) b.traps.items in
    subst (λ (l : List Armed). AllWaitBelow (length spans) l) (sym is)
    (each_from P (filter test armed) (λ x i. each_member P armed (spanned_within spans 0 armed e) x (filter_from test armed x i).0))

-- ---- what no instance offers
pub none_offered : {A : Type 0} (p q : A → Bool) (xs : List A) → list_any p xs ≡ false → list_any (λ x. p x && q x) xs ≡ false
none_offered p q [] e = refl
none_offered p q (x ∷ xs) e =
    let parts = or_parts (p x) (list_any p xs) e in or_from (p x && q x) (list_any (λ y. p y && q y) xs) (and_left (p x) (q x) parts.0) (none_offered p q xs parts.1)

-- ---- what stops at a slot

module _ (parts : TableParts) (samples : ℕ → Sample) (k : ℕ) where
  stops_covered : (spans : List Span) (j : ℕ) (traps : List Trap) → list_any (trap_stops parts samples k) traps ≡ true → are_covered spans j traps ≡ true → covers spans k j ≡ true
  stops_covered spans j [] stops e = cc
  stops_covered spans j (t ∷ traps) stops e =
      let both = and_parts (covers spans t.slot j) (are_covered spans j traps) e in
      elim (either_true (trap_stops parts samples k t) (list_any (trap_stops parts samples k) traps) stops) as (λ _. covers spans k j ≡ true) [
        | inl here ↦
            let same : t.slot ≡ k = eqb-true t.slot k (and_parts (t.slot == k) _ here).0 in
            subst (λ (n : ℕ). covers spans n j ≡ true) same both.0
        | inr behind ↦ stops_covered spans j traps behind both.1
      ]

  -- none stops whose place is not between these
  abbrev AreOutside : (from to place : ℕ) → List Armed → Type 0
  AreOutside from to n [] = Unit {0}
  AreOutside from to n (a ∷ armed) = (armed_stops parts samples k a ≡ true → (from ≤ n) × (n < to)) × AreOutside from to (n + 1) armed

  between : (span : Span) (n : ℕ) → holds span n ≡ true → (span.from ≤ n) × (n < span.to)
  between span n there =
      let sides = and_parts (nat_le span.from n) (nat_lt n span.to) there in
      let low : span.from ≤ n = grind (arith, nat_tests) in
      let high : n < span.to = grind (arith, nat_tests) in
      (low, high)

  outside_spanned : (spans : List Span) (span : Span) → unwrap_or (slice_get spans k) no_span ≡ span → (n : ℕ) (armed : List Armed) → are_spanned spans n armed ≡ true → AreOutside span.from span.to n armed
  outside_spanned spans span is n [] e = tt
  outside_spanned spans span is n (a ∷ armed) e =
      let both = and_parts (are_covered spans n a.traps.items) (are_spanned spans (n + 1) armed) e in
      ((λ stops. between span n (subst (λ (s : Span). holds s n ≡ true) is (stops_covered spans n a.traps.items stops both.0))), outside_spanned spans span is (n + 1) armed both.1)

  clamped : (from to count n : ℕ) → n < count → (from ≤ n) × (n < to) → (min (min count to) from ≤ n) × (n < min count to)
  clamped from to count n within sides =
      let low : min (min count to) from ≤ n = omega (arith, sides.0) in
      let high : n < min count to = omega (arith, sides.1, within) in
      (low, high)

  outside_clamped : (from to count n : ℕ) (armed : List Armed) → n + length armed ≤ count → AreOutside from to n armed → AreOutside (min (min count to) from) (min count to) n armed
  outside_clamped from to count n [] within h = tt
  outside_clamped from to count n (a ∷ armed) within h =
      ((λ stops. clamped from to count n (omega (arith, within)) (h.0 stops)), outside_clamped from to count (n + 1) armed (omega (arith, within)) h.1)

  none_stop : (from to n : ℕ) (armed : List Armed) → to ≤ n → AreOutside from to n armed → any_stops parts samples k armed ≡ false
  none_stop from to n [] past h = refl
  none_stop from to n (a ∷ armed) past h =
      let none : armed_stops parts samples k a ≡ false = false_from_ne_true (armed_stops parts samples k a) (λ stops. let sides = h.0 stops in omega (arith, sides.1, past)) in
      ap₂ (λ (x y : Bool). x || y) none (none_stop from to (n + 1) armed (omega (arith, past)) h.1)

  abbrev none_armed : List Armed
  none_armed = []

  cut_stops : (from to n : ℕ) (armed : List Armed) → AreOutside from to n armed → any_stops parts samples k (take (to - n - (from - n)) (drop (from - n) armed)) ≡ any_stops parts samples k armed
  cut_stops from to n [] h = any_of_none (to - n - (from - n)) (from - n)
    where
      any_of_none : (i m : ℕ) → any_stops parts samples k (take i (drop m none_armed)) ≡ false
      any_of_none zero m = refl
      any_of_none (suc i) zero = refl
      any_of_none (suc i) (suc m) = refl
  cut_stops from to n (a ∷ armed) h = elim (cases_lt n from) as (λ _. any_stops parts samples k (take (to - n - (from - n)) (drop (from - n) (a ∷ armed))) ≡ any_stops parts samples k (a ∷ armed)) [
    | inl before ↦
        let none : armed_stops parts samples k a ≡ false = false_from_ne_true (armed_stops parts samples k a) (λ stops. let sides = h.0 stops in omega (arith, sides.0, before)) in
        let skip : from - n ≡ suc (from - (n + 1)) = omega (arith, before) in
        let count : to - n - (from - n) ≡ to - (n + 1) - (from - (n + 1)) = omega (arith, before) in
        ap₂ (λ (i m : ℕ). any_stops parts samples k (take i (drop m (a ∷ armed)))) count skip ∙ cut_stops from to (n + 1) armed h.1 ∙ ap (λ (b : Bool). b || any_stops parts samples k armed) (sym none)
    | inr from_here ↦ elim (cases_lt n to) as (λ _. any_stops parts samples k (take (to - n - (from - n)) (drop (from - n) (a ∷ armed))) ≡ any_stops parts samples k (a ∷ armed)) [
      | inl among ↦
          let skip : from - n ≡ 0 = omega (arith, from_here) in
          let skipped : from - (n + 1) ≡ 0 = omega (arith, from_here) in
          let count : to - n - (from - n) ≡ suc (to - (n + 1) - (from - (n + 1))) = omega (arith, from_here, among) in
          ap₂ (λ (i m : ℕ). any_stops parts samples k (take i (drop m (a ∷ armed)))) count skip
          ∙ ap (λ (m : ℕ). armed_stops parts samples k a || any_stops parts samples k (take (to - (n + 1) - (from - (n + 1))) (drop m armed))) (sym skipped)
          ∙ ap (λ (b : Bool). armed_stops parts samples k a || b) (cut_stops from to (n + 1) armed h.1)
      | inr past ↦
          let count : to - n - (from - n) ≡ 0 = omega (arith, past) in
          ap (λ (i : ℕ). any_stops parts samples k (take i (drop (from - n) (a ∷ armed)))) count ∙ sym (none_stop from to n (a ∷ armed) past h)
    ]
  ]

  -- of the breakpoints that have their places those of a slot are enough
  pub span_is_enough : (spans : List Span) (span : Span) (armed : List Armed) (count from to : ℕ) → are_spanned spans 0 armed ≡ true → unwrap_or (slice_get spans k) no_span ≡ span → count ≡ length armed
      → to ≡ min count span.to → from ≡ min to span.from → any_stops parts samples k (take (to - from) (drop from armed)) ≡ any_stops parts samples k armed
  span_is_enough spans span armed count from to e is all te fe =
      let outside = outside_clamped span.from span.to count 0 armed (omega (arith, all)) (outside_spanned spans span is 0 armed e) in
      let low : from - 0 ≡ min (min count span.to) span.from - 0 = ap (λ (n : ℕ). n - 0) (fe ∙ ap (λ (n : ℕ). min n span.from) te) in
      let start : from ≡ min (min count span.to) span.from - 0 = omega (arith, low) in
      let long : to - from ≡ min count span.to - 0 - (min (min count span.to) span.from - 0) = omega (arith, low, te) in
      ap₂ (λ (i m : ℕ). any_stops parts samples k (take i (drop m armed))) long start
      ∙ cut_stops (min (min count span.to) span.from) (min count span.to) 0 armed outside

  -- where a slot has no places none stops
  pub vacant_stops : (spans : List Span) (n : ℕ) (armed : List Armed) → are_spanned spans n armed ≡ true → (span_of spans k).to ≤ (span_of spans k).from → any_stops parts samples k armed ≡ false
  vacant_stops spans n [] e none = refl
  vacant_stops spans n (a ∷ armed) e none =
      let both = and_parts (are_covered spans n a.traps.items) (are_spanned spans (n + 1) armed) e in
      let here : armed_stops parts samples k a ≡ false = false_from_ne_true (armed_stops parts samples k a) (λ stops.
      let sides = between (span_of spans k) n (stops_covered spans n a.traps.items stops both.0) in omega (arith, sides.0, sides.1, none)) in
      ap₂ (λ (x y : Bool). x || y) here (vacant_stops spans (n + 1) armed both.1 none)
