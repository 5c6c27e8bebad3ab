-- How many slots beside one another have no places, as it is told slot by slot: what is told stays right where places come and go.
use Rattle.std.proofs.Common.{◌≡◌, ℕ, ◌+◌, ◌-◌, ◌<◌, ◌≤◌, min, true, false, List, length, set, nat_le, nat_lt, ◌&&◌, refl, sym, ap, ap₂, ◌∙◌, subst, inl, inr, arith}
use Rattle.std.specs.Prelude.{unwrap_or}
use Rattle.std.proofs.lemmas.Bool.{cases_lt, cases_eq}
use Rattle.std.proofs.lemmas.Option.{unwrap_or-slice_get, slice_get_past}
use Rattle.std.proofs.lemmas.List.{get_or-set_same, get_or-set_other}
use Rattle.slot_sched.specs.declared.spans.Span.{Span}
use Rattle.slot_sched.specs.Spans.{no_span, span_of, far, HasPlacesOf, IsVacant, FallsShort, IsNear, Narrows, TellGaps}
use Rattle.slot_sched.proofs.Spanning.{Keeps}

-- ---- one slot is told of

span_here : (spans : List Span) (q : ℕ) (s : Span) → q < length spans → span_of (set spans q s) q ≡ s
span_here spans q s within = unwrap_or-slice_get (set spans q s) q no_span ∙ get_or-set_same spans q s no_span within

span_other : (spans : List Span) (q k : ℕ) (s : Span) → (k ≡ q → ⊥) → span_of (set spans q s) k ≡ span_of spans k
span_other spans q k s apart = unwrap_or-slice_get (set spans q s) k no_span ∙ get_or-set_other spans q k s no_span apart ∙ sym (unwrap_or-slice_get spans k no_span)

-- there is no such slot
beyond : (spans : List Span) (k : ℕ) → length spans ≤ k → span_of spans k ≡ no_span
beyond spans k past = ap (λ o. unwrap_or o no_span) (slice_get_past spans k past)

pub places_kept : (spans : List Span) (q : ℕ) (s : Span) → q < length spans → HasPlacesOf s (span_of spans q) → (k : ℕ) → HasPlacesOf (span_of (set spans q s) k) (span_of spans k)
places_kept spans q s within same k = elim (cases_eq k q) as (λ _. HasPlacesOf (span_of (set spans q s) k) (span_of spans k)) [
  | inl here ↦
      subst (λ n. HasPlacesOf (span_of (set spans q s) n) (span_of spans n)) (sym here)
      (subst (λ t. HasPlacesOf t (span_of spans q)) (sym (span_here spans q s within)) same)
  | inr other ↦ subst (λ t. HasPlacesOf t (span_of spans k)) (sym (span_other spans q k s other)) (refl, refl)
]

-- and so they are beside those of a list before
pub places_also : (first spans : List Span) (q : ℕ) (s : Span) → q < length spans → HasPlacesOf s (span_of spans q) → ((k : ℕ) → HasPlacesOf (span_of spans k) (span_of first k))
    → (k : ℕ) → HasPlacesOf (span_of (set spans q s) k) (span_of first k)
places_also first spans q s within same before k =
    let kept = places_kept spans q s within same k in (kept.0 ∙ (before k).0, kept.1 ∙ (before k).1)

vacant_kept : (old new : List Span) → ((k : ℕ) → HasPlacesOf (span_of new k) (span_of old k)) → (m : ℕ) → IsVacant old m → IsVacant new m
vacant_kept old new same m none = let from = (same m).0 in let to = (same m).1 in omega (arith, from, to, none)

-- so the places of breakpoints are as they were
pub keeps_of : (old new : List Span) → ((k : ℕ) → HasPlacesOf (span_of new k) (span_of old k)) → Keeps old new
keeps_of old new same k j e = ap₂ (λ f t. nat_le f j && nat_lt j t) (same k).0 (same k).1 ∙ e

-- ---- what tells less

pub narrows_same : (spans : List Span) → Narrows spans spans
narrows_same spans = record { places = λ k. (refl, refl); ahead = λ k. omega arith; behind = λ k. omega arith; cut = λ k. refl }

pub narrows_on : (first old new : List Span) → Narrows first old → Narrows old new → Narrows first new
narrows_on first old new before now = record {
  places = λ k. ((now.places k).0 ∙ (before.places k).0, (now.places k).1 ∙ (before.places k).1);
  ahead = λ k. let a = before.ahead k in let b = now.ahead k in omega (arith, a, b);
  behind = λ k. let a = before.behind k in let b = now.behind k in omega (arith, a, b);
  cut = λ k. now.cut k ∙ before.cut k;
}

pub falls_on : (old new : List Span) → Narrows old new → (k m : ℕ) → FallsShort old k m → FallsShort new k m
falls_on old new less k m short = (
  (λ on. let a = less.ahead k in let b = short.0 on in omega (arith, a, b)),
  (λ back. let a = less.behind k in let b = short.1 back in omega (arith, a, b)),
)

-- nothing that narrows gives a slot places, or has one tell more
pub gaps_narrowed : (old new : List Span) → Narrows old new → TellGaps old → TellGaps new
gaps_narrowed old new less gaps = record {
  ahead = λ k m on high. let most = less.ahead k in vacant_kept old new less.places m (gaps.ahead k m on (omega (arith, high, most)));
  behind = λ k m back high. let most = less.behind k in vacant_kept old new less.places m (gaps.behind k m back (omega (arith, high, most)));
  near = λ k. let a = less.ahead k in let b = less.behind k in let na = (gaps.near k).0 in let nb = (gaps.near k).1 in (omega (arith, a, na), omega (arith, b, nb));
  cut = λ k m e. falls_on old new less k m (gaps.cut k m (sym (less.cut m) ∙ e));
}

-- one slot tells less
module _ (first spans : List Span) (q : ℕ) (s : Span) (within : q < length spans) (same : HasPlacesOf s (span_of spans q)) where
  other_tells : (k : ℕ) → (k ≡ q → ⊥) → (span_of (set spans q s) k ≡ span_of spans k)
  other_tells k other = span_other spans q k s other

  narrows_one : s.ahead ≤ (span_of spans q).ahead → s.behind ≤ (span_of spans q).behind → s.cut ≡ (span_of spans q).cut → Narrows spans (set spans q s)
  narrows_one ahead behind cut = record {
    places = places_kept spans q s within same;
    ahead = λ k. elim (cases_eq k q) as (λ _. (span_of (set spans q s) k).ahead ≤ (span_of spans k).ahead) [
      | inl e ↦ subst (λ n. (span_of (set spans q s) n).ahead ≤ (span_of spans n).ahead) (sym e) (let here = ap (λ t. t.ahead) (span_here spans q s within) in omega (arith, here, ahead))
      | inr other ↦ let there = ap (λ t. t.ahead) (other_tells k other) in omega (arith, there)
    ];
    behind = λ k. elim (cases_eq k q) as (λ _. (span_of (set spans q s) k).behind ≤ (span_of spans k).behind) [
      | inl e ↦ subst (λ n. (span_of (set spans q s) n).behind ≤ (span_of spans n).behind) (sym e) (let here = ap (λ t. t.behind) (span_here spans q s within) in omega (arith, here, behind))
      | inr other ↦ let there = ap (λ t. t.behind) (other_tells k other) in omega (arith, there)
    ];
    cut = λ k. elim (cases_eq k q) as (λ _. (span_of (set spans q s) k).cut ≡ (span_of spans k).cut) [
      | inl e ↦ subst (λ n. (span_of (set spans q s) n).cut ≡ (span_of spans n).cut) (sym e) (ap (λ t. t.cut) (span_here spans q s within) ∙ cut)
      | inr other ↦ ap (λ t. t.cut) (other_tells k other)
    ];
  }

  pub narrows_more : s.ahead ≤ (span_of spans q).ahead → s.behind ≤ (span_of spans q).behind → s.cut ≡ (span_of spans q).cut → Narrows first spans → Narrows first (set spans q s)
  narrows_more ahead behind cut before = narrows_on first spans (set spans q s) before (narrows_one ahead behind cut)

  pub short_ahead : (low slot : ℕ) → q ≤ slot → s.ahead ≤ slot - q → ((k : ℕ) → low ≤ k → k < q → k + (span_of spans k).ahead ≤ slot)
      → (k : ℕ) → low ≤ k → k < q + 1 → k + (span_of (set spans q s) k).ahead ≤ slot
  short_ahead low slot back most before k from high = elim (cases_eq k q) as (λ _. k + (span_of (set spans q s) k).ahead ≤ slot) [
    | inl e ↦ subst (λ n. n + (span_of (set spans q s) n).ahead ≤ slot) (sym e) (let here = ap (λ t. t.ahead) (span_here spans q s within) in omega (arith, here, most, back))
    | inr other ↦ let there = ap (λ t. t.ahead) (other_tells k other) in let short = before k from (grind (arith, high, other)) in omega (arith, there, short)
  ]

  pub short_behind : (slot : ℕ) → slot ≤ q → s.behind ≤ q - slot → ((k : ℕ) → slot ≤ k → k < q → slot + (span_of spans k).behind ≤ k)
      → (k : ℕ) → slot ≤ k → k < q + 1 → slot + (span_of (set spans q s) k).behind ≤ k
  short_behind slot on most before k from high = elim (cases_eq k q) as (λ _. slot + (span_of (set spans q s) k).behind ≤ k) [
    | inl e ↦ subst (λ n. slot + (span_of (set spans q s) n).behind ≤ n) (sym e) (let here = ap (λ t. t.behind) (span_here spans q s within) in omega (arith, here, most, on))
    | inr other ↦ let there = ap (λ t. t.behind) (other_tells k other) in let short = before k from (grind (arith, high, other)) in omega (arith, there, short)
  ]

-- those that lie too far back, or on, tell nothing of a slot
pub all_ahead : (old new : List Span) (slot : ℕ) → Narrows old new → IsNear old → ((k : ℕ) → slot - 63 ≤ k → k < slot + 1 → k + (span_of new k).ahead ≤ slot)
    → (k : ℕ) → k ≤ slot → k + (span_of new k).ahead ≤ slot
all_ahead old new slot less near short k back = elim (cases_lt k (slot - 63)) as (λ _. k + (span_of new k).ahead ≤ slot) [
  | inl far ↦ let a = less.ahead k in let b = (near k).0 in omega (arith, a, b, far)
  | inr by ↦ short k by (omega (arith, back))
]

pub all_behind : (old new : List Span) (slot end : ℕ) → Narrows old new → IsNear old → end ≡ min (length new) (slot + 64) → ((k : ℕ) → slot ≤ k → k < end → slot + (span_of new k).behind ≤ k)
    → (k : ℕ) → slot ≤ k → slot + (span_of new k).behind ≤ k
all_behind old new slot end less near is short k on = elim (cases_lt k end) as (λ _. slot + (span_of new k).behind ≤ k) [
  | inl by ↦ short k on by
  | inr past ↦ elim (cases_lt k (length new)) as (λ _. slot + (span_of new k).behind ≤ k) [
    | inl there ↦ let a = less.behind k in let b = (near k).1 in let far : slot + 64 ≤ k = grind (arith, is, past, there) in omega (arith, a, b, far)
    | inr none ↦ let e = ap (λ (s : Span). s.behind) (beyond new k none) in omega (arith, e, on)
  ]
]

-- ---- a slot of which none tells anything gets places, or loses them

module _ (spans : List Span) (q : ℕ) (s : Span) (within : q < length spans) (ahead : s.ahead ≡ (span_of spans q).ahead) (behind : s.behind ≡ (span_of spans q).behind) where
  ahead_same : (k : ℕ) → (span_of (set spans q s) k).ahead ≡ (span_of spans k).ahead
  ahead_same k = elim (cases_eq k q) as (λ _. (span_of (set spans q s) k).ahead ≡ (span_of spans k).ahead) [
    | inl e ↦ subst (λ n. (span_of (set spans q s) n).ahead ≡ (span_of spans n).ahead) (sym e) (ap (λ t. t.ahead) (span_here spans q s within) ∙ ahead)
    | inr other ↦ ap (λ t. t.ahead) (span_other spans q k s other)
  ]

  behind_same : (k : ℕ) → (span_of (set spans q s) k).behind ≡ (span_of spans k).behind
  behind_same k = elim (cases_eq k q) as (λ _. (span_of (set spans q s) k).behind ≡ (span_of spans k).behind) [
    | inl e ↦ subst (λ n. (span_of (set spans q s) n).behind ≡ (span_of spans n).behind) (sym e) (ap (λ t. t.behind) (span_here spans q s within) ∙ behind)
    | inr other ↦ ap (λ t. t.behind) (span_other spans q k s other)
  ]

  near_same : IsNear spans → IsNear (set spans q s)
  near_same near k = let a = ahead_same k in let b = behind_same k in let na = (near k).0 in let nb = (near k).1 in (omega (arith, a, na), omega (arith, b, nb))

  falls_same : (k m : ℕ) → FallsShort spans k m → FallsShort (set spans q s) k m
  falls_same k m short = (
    (λ on. let a = ahead_same k in let b = short.0 on in omega (arith, a, b)),
    (λ back. let a = behind_same k in let b = short.1 back in omega (arith, a, b)),
  )

  vacant_other : (m : ℕ) → (m ≡ q → ⊥) → IsVacant spans m → IsVacant (set spans q s) m
  vacant_other m other none = subst (λ (t : Span). t.to ≤ t.from) (sym (span_other spans q m s other)) none

  pub gaps_placed : ((k : ℕ) → FallsShort spans k q) → TellGaps spans → TellGaps (set spans q s)
  gaps_placed short gaps = record {
    ahead = λ k m on high. let a = ahead_same k in elim (cases_eq m q) as (λ _. IsVacant (set spans q s) m) [
      | inl e ↦ absurd (let b = (short k).0 (omega (arith, e, on)) in omega (arith, a, b, e, high))
      | inr other ↦ vacant_other m other (gaps.ahead k m on (omega (arith, a, high)))
    ];
    behind = λ k m back high. let a = behind_same k in elim (cases_eq m q) as (λ _. IsVacant (set spans q s) m) [
      | inl e ↦ absurd (let b = (short k).1 (omega (arith, e, back)) in omega (arith, a, b, e, high))
      | inr other ↦ vacant_other m other (gaps.behind k m back (omega (arith, a, high)))
    ];
    near = near_same gaps.near;
    cut = λ k m e. elim (cases_eq m q) as (λ _. FallsShort (set spans q s) k m) [
      | inl here ↦ subst (λ n. FallsShort (set spans q s) k n) (sym here) (falls_same k q (short k))
      | inr other ↦ falls_same k m (gaps.cut k m (sym (ap (λ t. t.cut) (span_other spans q m s other)) ∙ e))
    ];
  }

  pub gaps_vacated : s.to ≤ s.from → s.cut ≡ (span_of spans q).cut → TellGaps spans → TellGaps (set spans q s)
  gaps_vacated none cut gaps = record {
    ahead = λ k m on high. let a = ahead_same k in vacant m (gaps.ahead k m on (omega (arith, a, high)));
    behind = λ k m back high. let a = behind_same k in vacant m (gaps.behind k m back (omega (arith, a, high)));
    near = near_same gaps.near;
    cut = λ k m e. falls_same k m (gaps.cut k m (sym (cut_same m) ∙ e));
  }
    where
      vacant : (m : ℕ) → IsVacant spans m → IsVacant (set spans q s) m
      vacant m h = elim (cases_eq m q) as (λ _. IsVacant (set spans q s) m) [
        | inl e ↦ subst (λ n. IsVacant (set spans q s) n) (sym e) (subst (λ (t : Span). t.to ≤ t.from) (sym (span_here spans q s within)) none)
        | inr other ↦ vacant_other m other h
      ]

      cut_same : (k : ℕ) → (span_of (set spans q s) k).cut ≡ (span_of spans k).cut
      cut_same k = elim (cases_eq k q) as (λ _. (span_of (set spans q s) k).cut ≡ (span_of spans k).cut) [
        | inl e ↦ subst (λ n. (span_of (set spans q s) n).cut ≡ (span_of spans n).cut) (sym e) (ap (λ t. t.cut) (span_here spans q s within) ∙ cut)
        | inr other ↦ ap (λ t. t.cut) (span_other spans q k s other)
      ]

-- ---- slots that are passed over

pub passed_ahead : (spans : List Span) → TellGaps spans → (k n m : ℕ) → (0 < n → IsVacant spans k) → (1 < n → n ≤ (span_of spans k).ahead) → k ≤ m → m < k + n → IsVacant spans m
passed_ahead spans gaps k n m here most on high = elim (cases_eq m k) as (λ _. IsVacant spans m) [
  | inl same ↦ subst (λ j. IsVacant spans j) (sym same) (here (omega (arith, on, high)))
  | inr other ↦ let more : 1 < n = grind (arith, on, high, other) in let told = most more in gaps.ahead k m on (omega (arith, high, told))
]

pub passed_behind : (spans : List Span) → TellGaps spans → (k n m : ℕ) → (0 < n → IsVacant spans k) → (1 < n → n ≤ (span_of spans k).behind) → m ≤ k → k < m + n → IsVacant spans m
passed_behind spans gaps k n m here most back high = elim (cases_eq m k) as (λ _. IsVacant spans m) [
  | inl same ↦ subst (λ j. IsVacant spans j) (sym same) (here (omega (arith, back, high)))
  | inr other ↦ let more : 1 < n = grind (arith, back, high, other) in let told = most more in gaps.behind k m back (omega (arith, high, told))
]

-- ---- slots that are new

-- they have no places, and tell nothing
pub gaps_grown : (old new : List Span) → ((k : ℕ) → span_of new k ≡ span_of old k) → TellGaps old → TellGaps new
gaps_grown old new alike gaps = record {
  ahead = λ k m on high. let e = ap (λ (s : Span). s.ahead) (alike k) in vacant m (gaps.ahead k m on (omega (arith, e, high)));
  behind = λ k m back high. let e = ap (λ (s : Span). s.behind) (alike k) in vacant m (gaps.behind k m back (omega (arith, e, high)));
  near = λ k. subst (λ (s : Span). (s.ahead ≤ far) × (s.behind ≤ far)) (sym (alike k)) (gaps.near k);
  cut = λ k m e. let a = ap (λ (s : Span). s.ahead) (alike k) in let b = ap (λ (s : Span). s.behind) (alike k) in
      let short = gaps.cut k m (sym (ap (λ (s : Span). s.cut) (alike m)) ∙ e) in (
        (λ on. let h = short.0 on in omega (arith, a, h)),
        (λ back. let h = short.1 back in omega (arith, b, h)),
      );
}
  where
    vacant : (m : ℕ) → IsVacant old m → IsVacant new m
    vacant m none = subst (λ (s : Span). s.to ≤ s.from) (sym (alike m)) none

-- where no slot has places, each may tell of as many as one tells of at most
abbrev pub IsBlank : Span → Type 0
IsBlank s = (s.to ≤ s.from) × (s.ahead ≤ far) × (s.behind ≤ far) × (s.cut ≡ false)

pub gaps_blank : (spans : List Span) → ((k : ℕ) → IsBlank (span_of spans k)) → TellGaps spans
gaps_blank spans blank = record {
  ahead = λ k m on high. (blank m).0;
  behind = λ k m back high. (blank m).0;
  near = λ k. ((blank k).1, (blank k).2);
  cut = λ k m e. absurd (no_cut (sym e ∙ (blank m).3));
}
  where
    no_cut : true ≡ false → ⊥
    no_cut e = cc
