-- A breakpoint waits slot after slot. So what it waits for at one slot is one piece of where it waits, between two places that are searched for.
use Rattle.std.proofs.Common.{◌≡◌, ℕ, zero, suc, ◌<◌, ◌≤◌, ◌==◌, ◌&&◌, Bool, true, false, cond, not, List, [], ◌∷◌, length, filter, take, drop, get_or, nat_le, nat_lt, refl, sym, ap, ◌∙◌, inl, inr, arith}
use Rattle.std.specs.List.{list_any}
use Rattle.std.specs.List.Sorted.{IsPartitionPoint}
use Rattle.std.proofs.lemmas.Bool.{cases_lt, cases_eq, lt-ltb, le-ltb, le-leb, lt-leb, eq-eqb, ne_eqb}
use Rattle.bv_core.specs.declared.Sample.{Sample}
use Rattle.symtab.specs.declared.parts.TableParts.{TableParts}
use Rattle.site_core.specs.declared.trap.Trap.{Trap}
use Rattle.site_core.specs.Sampled.{is_thread}
use Rattle.slot_sched.specs.Waiting.{test_holds, trap_stops}
use Rattle.site_core.proofs.Any.{any_alike, any_filtered}

-- ---- one piece of a list

module _ {A : Type 0} (p : A → Bool) where
  none_passes : (xs : List A) → ((j : ℕ) (d : A) → j < length xs → p (get_or xs j d) ≡ false) → (filter p xs ≡ []) × (xs ≡ filter (λ x. not (p x)) xs)
  none_passes [] h = (refl, refl)
  none_passes (x ∷ xs) h = by_test (p x) (h 0 x (omega arith)) (none_passes xs (λ j d within. h (suc j) d (omega (arith, within))))
    where
      by_test : (b : Bool) → b ≡ false → (filter p xs ≡ []) × (xs ≡ filter (λ y. not (p y)) xs)
          → (cond b (x ∷ filter p xs) (filter p xs) ≡ []) × (x ∷ xs ≡ cond (not b) (x ∷ filter (λ y. not (p y)) xs) (filter (λ y. not (p y)) xs))
      by_test true e rest = cc
      by_test false e rest = (rest.0, ap (λ l. x ∷ l) rest.1)

  -- what passes a test stands before the point at which it ends, and the rest from there on
  pub pieces : (i : ℕ) (xs : List A) → i ≤ length xs → IsPartitionPoint (λ y. p y ≡ true) (λ y. p y ≡ false) xs i → (take i xs ≡ filter p xs) × (drop i xs ≡ filter (λ x. not (p x)) xs)
  pieces zero xs within h = let none = none_passes xs (λ j d inside. h.1 j d (omega arith) inside) in (sym none.0, none.1)
  pieces (suc i) [] within h = absurd (omega (arith, within))
  pieces (suc i) (x ∷ xs) within h =
      by_test (p x) (h.0 0 x (omega arith) (omega arith))
      (pieces i xs (omega (arith, within)) ((λ k d low high. h.0 (suc k) d (omega arith) (omega (arith, high))), (λ k d low high. h.1 (suc k) d (omega (arith, low)) (omega (arith, high)))))
    where
      by_test : (b : Bool) → b ≡ true → (take i xs ≡ filter p xs) × (drop i xs ≡ filter (λ y. not (p y)) xs)
          → (x ∷ take i xs ≡ cond b (x ∷ filter p xs) (filter p xs)) × (drop i xs ≡ cond (not b) (x ∷ filter (λ y. not (p y)) xs) (filter (λ y. not (p y)) xs))
      by_test true e rest = (ap (λ l. x ∷ l) rest.0, rest.1)
      by_test false e rest = cc

-- a test of what passed another
filter_both : {A : Type 0} (p q r : A → Bool) → ((x : A) → (q x && p x) ≡ r x) → (xs : List A) → filter p (filter q xs) ≡ filter r xs
filter_both p q r agree [] = refl
filter_both p q r agree (x ∷ xs) = by_test (q x) (agree x) (filter_both p q r agree xs)
  where
    by_test : (b : Bool) → (b && p x) ≡ r x → filter p (filter q xs) ≡ filter r xs → filter p (cond b (x ∷ filter q xs) (filter q xs)) ≡ cond (r x) (x ∷ filter r xs) (filter r xs)
    by_test true e rest = (λ j. cond (e j) (x ∷ rest j) (rest j))
    by_test false e rest = rest ∙ ap (λ b. cond b (x ∷ filter r xs) (filter r xs)) e

-- ---- where a breakpoint waits at one slot

here : (k s : ℕ) → (not (nat_lt s k) && nat_le s k) ≡ (s == k)
here k s = elim (cases_lt s k) as (λ _. (not (nat_lt s k) && nat_le s k) ≡ (s == k)) [
  | inl below ↦ ap (λ b. not b && nat_le s k) (lt-ltb s k below) ∙ sym (ne_eqb s k (λ e. omega (arith, e, below)))
  | inr on ↦ ap (λ b. not b && nat_le s k) (le-ltb s k on) ∙ elim (cases_eq s k) as (λ _. nat_le s k ≡ (s == k)) [
    | inl same ↦ le-leb s k (omega (arith, same)) ∙ sym (eq-eqb s k same)
    | inr other ↦ lt-leb s k (grind (arith, on, other)) ∙ sym (ne_eqb s k other)
  ]
]

module _ (traps : List Trap) (k from count : ℕ) where
  abbrev is_below : Trap → Bool
  is_below t = nat_lt t.slot k

  abbrev is_upto : Trap → Bool
  is_upto t = nat_le t.slot k

  pub one_piece : (all rest : List Trap) → all ≡ traps → rest ≡ drop from traps → from ≤ length all → IsPartitionPoint (λ t. is_below t ≡ true) (λ t. is_below t ≡ false) all from
      → count ≤ length rest → IsPartitionPoint (λ t. is_upto t ≡ true) (λ t. is_upto t ≡ false) rest count → take count rest ≡ filter (λ t. t.slot == k) traps
  one_piece all rest same behind within below inside upto =
      (pieces is_upto count rest inside upto).0
      ∙ ap (filter is_upto) (behind ∙ ap (drop from) (sym same) ∙ (pieces is_below from all within below).1 ∙ ap (filter (λ t. not (is_below t))) same)
      ∙ filter_both is_upto (λ t. not (is_below t)) (λ t. t.slot == k) (λ t. here k t.slot) traps

-- so it stops there where one of these does
pub stops_there : (parts : TableParts) (samples : ℕ → Sample) (k : ℕ) (traps : List Trap) → list_any (trap_stops parts samples k) (filter (λ t. t.slot == k) traps) ≡ list_any (trap_stops parts samples k) traps
stops_there parts samples k traps =
    any_filtered (trap_stops parts samples k) (λ t. t.slot == k) traps ∙ any_alike _ (trap_stops parts samples k) (λ t. twice (t.slot == k) (is_thread parts samples t.slot t.instance && test_holds samples t.cond)) traps
  where
    twice : (a b : Bool) → (a && (a && b)) ≡ (a && b)
    twice true b = refl
    twice false b = refl
