-- Whether an instance is one of a slot's variant, by its own variant.
use Rattle.std.proofs.Common.{◌≡◌, ℕ, zero, suc, ◌+◌, ◌<◌, ◌≤◌, ◌==◌, ◌&&◌, ◌||◌, Bool, true, false, cond, List, [], ◌∷◌, Option, Some, None, Contains, option_map, length, slice_get, refl, sym, ap, ap₂, ◌∙◌, arith, eqb-true, eq-eqb, ne_eqb}
use Rattle.std.specs.List.{list_any}
use Rattle.std.specs.Option.{option_map_or}
use Rattle.std.proofs.lemmas.Option.{slice_get-map, slice_get_past}
use Rattle.std.proofs.lemmas.Map.Views.{Contains-from_any}
use Rattle.symtab.specs.declared.parts.TableParts.{TableParts}
use Rattle.symtab.specs.declared.parts.InstanceParts.{InstanceParts}
use Rattle.symtab.specs.declared.parts.Slot.{Slot}
use Rattle.symtab.specs.Places.{places, places_from}
use Rattle.symtab.specs.Shape.{variants_of}
use Rattle.symtab.specs.Lookups.{instances_of}

-- a number stands at this place
abbrev pub stands_at : (number : ℕ) → List ℕ → (place : ℕ) → Bool
stands_at v xs i = option_map_or (λ x. x == v) (slice_get xs i) false

apart : (a b : ℕ) → b < a → (a == b) ≡ false
apart a b h = ne_eqb a b (λ same. omega (arith, same, h))

none_after : (v first n : ℕ) (xs : List ℕ) (b : Bool) → n < first → list_any (λ j. j == n) (places_from (first + 1) v xs) ≡ false
    → list_any (λ j. j == n) (cond b (first ∷ places_from (first + 1) v xs) (places_from (first + 1) v xs)) ≡ false
none_after v first n xs true h rest = ap₂ (λ a b. a || b) (apart first n h) rest
none_after v first n xs false h rest = rest

none_below : (v first n : ℕ) (xs : List ℕ) → n < first → list_any (λ j. j == n) (places_from first v xs) ≡ false
none_below v first n [] h = refl
none_below v first n (x ∷ xs) h = none_after v first n xs (x == v) h (none_below v (first + 1) n xs (omega (arith, h)))

here_has : (v first n : ℕ) (xs : List ℕ) (b : Bool) → n ≡ first → list_any (λ j. j == n) (cond b (first ∷ places_from (first + 1) v xs) (places_from (first + 1) v xs)) ≡ b
here_has v first n xs true e = ap (λ a. a || list_any (λ j. j == n) (places_from (first + 1) v xs)) (eq-eqb first n (sym e))
here_has v first n xs false e = none_below v (first + 1) n xs (omega (arith, e))

later_has : (v first n : ℕ) (xs : List ℕ) (b stands : Bool) → first < n → list_any (λ j. j == n) (places_from (first + 1) v xs) ≡ stands
    → list_any (λ j. j == n) (cond b (first ∷ places_from (first + 1) v xs) (places_from (first + 1) v xs)) ≡ stands
later_has v first n xs true stands h rest = ap₂ (λ a b. a || b) (ne_eqb first n (λ same. omega (arith, same, h))) rest
later_has v first n xs false stands h rest = rest

place_has : (v first i : ℕ) (xs : List ℕ) (n : ℕ) → n ≡ first + i → list_any (λ j. j == n) (places_from first v xs) ≡ stands_at v xs i
place_has v first i [] n e = refl
place_has v first zero (x ∷ xs) n e = here_has v first n xs (x == v) (omega (arith, e))
place_has v first (suc i) (x ∷ xs) n e = later_has v first n xs (x == v) (stands_at v xs i) (omega (arith, e)) (place_has v (first + 1) i xs n (omega (arith, e)))

pub place_stands : (v i : ℕ) (xs : List ℕ) → list_any (λ j. j == i) (places v xs) ≡ stands_at v xs i
place_stands v i xs = place_has v 0 i xs i (omega arith)

-- the named one alone can be what is found
absorbed : (a r : Bool) → (a || (r && a)) ≡ a
absorbed true r = refl
absorbed false true = refl
absorbed false false = refl

alone_here : (f : ℕ → Bool) (i x : ℕ) (rest named : Bool) (b : Bool) → (x == i) ≡ b → named ≡ (rest && f i) → ((b && f x) || named) ≡ ((b || rest) && f i)
alone_here f i x rest named true e h = ap₂ (λ a r. a || r) (ap f (eqb-true x i e)) h ∙ absorbed (f i) rest
alone_here f i x rest named false e h = h

pub named_alone : (f : ℕ → Bool) (i : ℕ) (xs : List ℕ) → list_any (λ j. (j == i) && f j) xs ≡ (list_any (λ j. j == i) xs && f i)
named_alone f i [] = refl
named_alone f i (x ∷ xs) = alone_here f i x (list_any (λ j. j == i) xs) (list_any (λ j. (j == i) && f j) xs) (x == i) refl (named_alone f i xs)

-- it is among them
pub wanted_there : (i : ℕ) (xs : List ℕ) → list_any (λ j. j == i) xs ≡ true → Contains xs i
wanted_there i xs e = Contains-from_any {eq = λ a b. b == a} (λ x y same. sym (eqb-true y x same)) i xs e

-- an instance is one of a slot's by its variant
stands_mapped : (v : ℕ) (o : Option InstanceParts) → option_map_or (λ x. x == v) (option_map (λ (it : InstanceParts). it.variant) o) false ≡ option_map_or (λ (it : InstanceParts). it.variant == v) o false
stands_mapped v None = refl
stands_mapped v (Some it) = refl

pub instance_stands : (parts : TableParts) (k i : ℕ) (slot : Slot) → slice_get parts.slots k ≡ Some slot
    → list_any (λ j. j == i) (instances_of parts k) ≡ option_map_or (λ (it : InstanceParts). it.variant == slot.variant) (slice_get parts.instances i) false
instance_stands parts k i slot e =
    ap (λ o. list_any (λ j. j == i) (option_map_or (λ (s : Slot). places s.variant (variants_of parts.instances)) o [])) e
    ∙ place_stands slot.variant i (variants_of parts.instances)
    ∙ ap (λ o. option_map_or (λ x. x == slot.variant) o false) (slice_get-map (λ (it : InstanceParts). it.variant) parts.instances i)
    ∙ stands_mapped slot.variant (slice_get parts.instances i)

pub no_instance : (parts : TableParts) (k i : ℕ) → length parts.instances ≤ i → list_any (λ j. j == i) (instances_of parts k) ≡ false
no_instance parts k i past = by (slice_get parts.slots k)
  where
    by : (o : Option Slot) → list_any (λ j. j == i) (option_map_or (λ (s : Slot). places s.variant (variants_of parts.instances)) o []) ≡ false
    by None = refl
    by (Some slot) =
        place_stands slot.variant i (variants_of parts.instances)
        ∙ ap (λ o. option_map_or (λ x. x == slot.variant) o false) (slice_get-map (λ (it : InstanceParts). it.variant) parts.instances i
        ∙ ap (option_map (λ (it : InstanceParts). it.variant)) (slice_get_past parts.instances i past))
