-- Where is waited stands slot after slot, since the slots on a line are found in order.
use Rattle.std.proofs.Common.{◌≡◌, ℕ, zero, suc, ◌+◌, ◌<◌, ◌≤◌, ◌==◌, Bool, true, false, cond, List, [], ◌∷◌, ◌++◌, length, map, filter, get_or, Option, if◌then◌else◌, refl, sym, ap, ◌∙◌, subst, arith}
use Rattle.std.specs.List.Sorted.{IsNonDecreasingBy}
use Rattle.symtab.specs.declared.parts.TableParts.{TableParts}
use Rattle.symtab.specs.Places.{places, places_from}
use Rattle.site_core.specs.declared.trap.Trap.{Trap}
use Rattle.site_core.specs.Traps.{traps_of, trap_place}

-- ---- numbers that do not fall

-- they begin with this one, or higher
abbrev pub RiseFrom : ℕ → List ℕ → Type 0
RiseFrom least [] = Unit {0}
RiseFrom least (x ∷ xs) = (least ≤ x) × RiseFrom x xs

from_less : (a b : ℕ) (xs : List ℕ) → a ≤ b → RiseFrom b xs → RiseFrom a xs
from_less a b [] below h = tt
from_less a b (x ∷ xs) below h = (let first = h.0 in omega (arith, below, first), h.1)

places_rise : (first number : ℕ) (xs : List ℕ) → RiseFrom first (places_from first number xs)
places_rise first number [] = tt
places_rise first number (x ∷ xs) = by_test (x == number) (places_from (first + 1) number xs) (from_less first (first + 1) (places_from (first + 1) number xs) (omega arith) (places_rise (first + 1) number xs))
  where
    by_test : (b : Bool) (rest : List ℕ) → RiseFrom first rest → RiseFrom first (if b then first ∷ rest else rest)
    by_test true rest h = (omega arith, h)
    by_test false rest h = h

filter_rises : (p : ℕ → Bool) (least : ℕ) (xs : List ℕ) → RiseFrom least xs → RiseFrom least (filter p xs)
filter_rises p least [] h = tt
filter_rises p least (x ∷ xs) h = by_test (p x) (filter_rises p x xs h.1)
  where
    by_test : (b : Bool) → RiseFrom x (filter p xs) → RiseFrom least (cond b (x ∷ filter p xs) (filter p xs))
    by_test true rest = (h.0, rest)
    by_test false rest = from_less least x (filter p xs) h.0 rest

-- ---- slot after slot

slot_rises : (k least : ℕ) (is : List ℕ) (rest : List (ℕ × ℕ)) → least ≤ k → RiseFrom k (map (λ at. at.0) rest) → RiseFrom least (map (λ at. at.0) (map (λ i. (k, i)) is ++ rest))
slot_rises k least [] rest below h = from_less least k (map (λ at. at.0) rest) below h
slot_rises k least (i ∷ is) rest below h = (below, slot_rises k k is rest (omega arith) h)

spots_rise : (parts : TableParts) (named : Option ℕ) (least : ℕ) (slots : List ℕ) → RiseFrom least slots → RiseFrom least (map (λ at. at.0) (traps_of parts named slots))
spots_rise parts named least [] h = tt
spots_rise parts named least (k ∷ slots) h = slot_rises k least _ (traps_of parts named slots) h.0 (spots_rise parts named k slots h.1)

slots_placed : (traps : List Trap) → map (λ t. t.slot) traps ≡ map (λ (at : ℕ × ℕ). at.0) (map trap_place traps)
slots_placed [] = refl
slots_placed (t ∷ traps) = ap (λ l. t.slot ∷ l) (slots_placed traps)

at_least : {A : Type 0} (n : A → ℕ) (least : ℕ) (xs : List A) → RiseFrom least (map n xs) → (j : ℕ) (d : A) → j < length xs → least ≤ n (get_or xs j d)
at_least n least [] h j d within = absurd (omega (arith, within))
at_least n least (x ∷ xs) h zero d within = h.0
at_least n least (x ∷ xs) h (suc j) d within = let first = h.0 in let later = at_least n (n x) xs h.1 j d (omega (arith, within)) in omega (arith, first, later)

none_falls : {A : Type 0} (n : A → ℕ) (least : ℕ) (xs : List A) → RiseFrom least (map n xs) → IsNonDecreasingBy n xs
none_falls n least [] h i j d order within = absurd (omega (arith, within))
none_falls n least (x ∷ xs) h zero zero d order within = omega arith
none_falls n least (x ∷ xs) h zero (suc j) d order within = at_least n (n x) xs h.1 j d (omega (arith, within))
none_falls n least (x ∷ xs) h (suc i) zero d order within = absurd (omega (arith, order))
none_falls n least (x ∷ xs) h (suc i) (suc j) d order within = none_falls n (n x) xs h.1 i j d (omega (arith, order)) (omega (arith, within))

pub waits_in_order : (parts : TableParts) (named : Option ℕ) (line : ℕ) (lines slots : List ℕ) (p : ℕ → Bool) (traps : List Trap) → slots ≡ filter p (places line lines) → map trap_place traps ≡ traps_of parts named slots → IsNonDecreasingBy (λ (t : Trap). t.slot) traps
waits_in_order parts named line lines slots p traps kept at =
    none_falls (λ (t : Trap). t.slot) 0 traps
    (subst (RiseFrom 0) (sym (slots_placed traps ∙ ap (map (λ (at : ℕ × ℕ). at.0)) at))
    (spots_rise parts named 0 slots (subst (RiseFrom 0) (sym kept) (filter_rises p 0 (places line lines) (places_rise 0 line lines)))))
