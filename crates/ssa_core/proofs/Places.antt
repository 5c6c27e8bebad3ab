-- What stands at a place of a list.
use Rattle.std.proofs.Common.{◌≡◌, ℕ, zero, suc, ◌<◌, Bool, true, false, List, [], ◌∷◌, length, Some, ◌⊎◌, inl, inr, refl, sym, ap, ◌∙◌, arith, eqb, eqb-true, eq-eqb, map}
use Rattle.std.specs.Prelude.{slice_get}
use Rattle.std.proofs.Math.ListN.{set}
use Rattle.std.proofs.lemmas.Option.{same_Some}

pub get_set_same : {A : Type 0} (xs : List A) (n : ℕ) (a : A) → n < length xs → slice_get (set xs n a) n ≡ Some a
get_set_same [] n a h = absurd (omega (arith, h))
get_set_same (x ∷ xs) zero a h = refl
get_set_same (x ∷ xs) (suc n) a h = get_set_same xs n a (omega (arith, h))

pub get_set_other : {A : Type 0} (xs : List A) (n k : ℕ) (a : A) → (k ≡ n → ⊥) → slice_get (set xs n a) k ≡ slice_get xs k
get_set_other [] n k a h = refl
get_set_other (x ∷ xs) zero zero a h = absurd (h refl)
get_set_other (x ∷ xs) zero (suc k) a h = refl
get_set_other (x ∷ xs) (suc n) zero a h = refl
get_set_other (x ∷ xs) (suc n) (suc k) a h = get_set_other xs n k a (λ e. h (ap suc e))

-- two numbers are the same or not
pub same_or_not : (m n : ℕ) → (m ≡ n) ⊎ (m ≡ n → ⊥)
same_or_not m n = by_test (eqb m n) refl
  where
    by_test : (b : Bool) → eqb m n ≡ b → (m ≡ n) ⊎ (m ≡ n → ⊥)
    by_test true e = inl (eqb-true m n e)
    by_test false e = inr (λ h. let both : true ≡ false = sym (eq-eqb m n h) ∙ e in cc)

pub get_map : {A B : Type 0} (f : A → B) (xs : List A) (k : ℕ) (x : A) → slice_get xs k ≡ Some x → slice_get (map f xs) k ≡ Some (f x)
get_map f [] k x e = cc
get_map f (y ∷ ys) zero x e = ap (λ z. Some (f z)) (same_Some y x e)
get_map f (y ∷ ys) (suc k) x e = get_map f ys k x e

-- of what a list is mapped to, something stands in the list
pub record Mapped {A B : Type 0} (f : A → B) (xs : List A) (k : ℕ) (y : B) : Type 0 where
  pub from : A
  pub found : slice_get xs k ≡ Some from
  pub is : f from ≡ y

pub get_mapped : {A B : Type 0} (f : A → B) (xs : List A) (k : ℕ) (y : B) → slice_get (map f xs) k ≡ Some y → Mapped f xs k y
get_mapped f [] k y e = cc
get_mapped f (x ∷ xs) zero y e = record { from = x; found = refl; is = same_Some (f x) y e }
get_mapped f (x ∷ xs) (suc k) y e = let m = get_mapped f xs k y e in record { from = m.from; found = m.found; is = m.is }
