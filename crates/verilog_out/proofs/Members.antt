-- Elements of lists that are made of others.
use Rattle.std.proofs.Common.{◌≡◌, ℕ, zero, suc, ◌+◌, ◌<◌, ◌≤◌, List, [], ◌∷◌, ◌++◌, Option, Some, None, map, slice_get, ◌⊎◌, inl, inr, ⊎_elim, refl, sym, ap, ◌∙◌, subst, arith}
use Rattle.std.specs.List.{filter_map, cons_option}
use Rattle.list_core.specs.Lists.{IsIn, AreApart, from}
use Rattle.list_core.proofs.Lists.{not_in, in_cases, none_in}

-- what is mapped comes of an element
pub record FromOne {A B : Type 0} (f : A → B) (xs : List A) (y : B) : Type 0 where
  pub one : A
  pub among : IsIn one xs
  pub is : y ≡ f one

pub in_mapped : {A B : Type 0} (f : A → B) (xs : List A) (y : B) → IsIn y (map f xs) → FromOne f xs y
in_mapped f [] y h = absurd h
in_mapped f (x ∷ xs) y (inl e) = record { one = x; among = inl refl; is = e }
in_mapped f (x ∷ xs) y (inr h) = let r = in_mapped f xs y h in record { one = r.one; among = inr r.among; is = r.is }

-- what is found comes of an element
pub record FoundAt {A B : Type 0} (f : A → Option B) (xs : List A) (y : B) : Type 0 where
  pub one : A
  pub among : IsIn one xs
  pub is : f one ≡ Some y

found_cons : {A B : Type 0} (f : A → Option B) (x : A) (xs : List A) (y : B) (o : Option B) → f x ≡ o → (IsIn y (filter_map f xs) → FoundAt f xs y) → IsIn y (cons_option o (filter_map f xs)) → FoundAt f (x ∷ xs) y
found_cons f x xs y None e rest h = let r = rest h in record { one = r.one; among = inr r.among; is = r.is }
found_cons f x xs y (Some z) e rest (inl s) = record { one = x; among = inl refl; is = e ∙ ap Some (sym s) }
found_cons f x xs y (Some z) e rest (inr h) = let r = rest h in record { one = r.one; among = inr r.among; is = r.is }

pub in_found : {A B : Type 0} (f : A → Option B) (xs : List A) (y : B) → IsIn y (filter_map f xs) → FoundAt f xs y
in_found f [] y h = absurd h
in_found f (x ∷ xs) y h = found_cons f x xs y (f x) refl (in_found f xs y) h

later : {B : Type 0} (o : Option B) (ys : List B) (y : B) → IsIn y ys → IsIn y (cons_option o ys)
later None ys y h = h
later (Some z) ys y h = inr h

pub found_in : {A B : Type 0} (f : A → Option B) (xs : List A) (x : A) (y : B) → IsIn x xs → f x ≡ Some y → IsIn y (filter_map f xs)
found_in f [] x y h e = absurd h
found_in f (z ∷ xs) x y (inl s) e = subst (λ o. IsIn y (cons_option o (filter_map f xs))) (sym (ap f (sym s) ∙ e)) (inl refl)
found_in f (z ∷ xs) x y (inr h) e = later (f z) (filter_map f xs) y (found_in f xs x y h e)

-- numbers one after another
pub in_from : (k m i : ℕ) → IsIn i (from k m) → (k ≤ i) × (i < k + m)
in_from k zero i h = absurd h
in_from k (suc m) i (inl e) = (omega arith, omega arith)
in_from k (suc m) i (inr h) = let r = in_from (k + 1) m i h in (omega arith, omega arith)

first_or_later : (k i : ℕ) → k ≤ i → (i ≡ k) ⊎ (k + 1 ≤ i)
first_or_later zero zero l = inl refl
first_or_later zero (suc i) l = inr (omega arith)
first_or_later (suc k) zero l = absurd (omega arith)
first_or_later (suc k) (suc i) l = ⊎_elim (λ e. inl (ap suc e)) (λ m. inr (omega arith)) (first_or_later k i (omega arith))

pub from_in : (k m i : ℕ) → k ≤ i → i < k + m → IsIn i (from k m)
from_in k zero i l h = absurd (omega arith)
from_in k (suc m) i l h = ⊎_elim (λ e. inl e) (λ g. inr (from_in (k + 1) m i g (omega arith))) (first_or_later k i l)

pub at_place : {A : Type 0} (xs : List A) (k : ℕ) (x : A) → slice_get xs k ≡ Some x → IsIn x xs
at_place [] k x e = cc
at_place (y ∷ xs) zero x e = let same : y ≡ x = cc in inl (sym same)
at_place (y ∷ xs) (suc k) x e = inr (at_place xs k x e)

pub record Placed {A : Type 0} (xs : List A) (x : A) : Type 0 where
  pub place : ℕ
  pub at : slice_get xs place ≡ Some x

pub place_of : {A : Type 0} (xs : List A) (x : A) → IsIn x xs → Placed xs x
place_of [] x h = absurd h
place_of (y ∷ xs) x (inl e) = record { place = 0; at = ap Some (sym e) }
place_of (y ∷ xs) x (inr h) = let r = place_of xs x h in record { place = suc r.place; at = r.at }

pub apart_beside : {A : Type 0} (xs ys : List A) → AreApart xs → AreApart ys → ((x : A) → IsIn x xs → IsIn x ys → ⊥) → AreApart (xs ++ ys)
apart_beside [] ys a b h = b
apart_beside (x ∷ xs) ys a b h =
    (none_in x (xs ++ ys) (λ i. ⊎_elim (λ l. not_in x xs a.0 l) (λ r. h x (inl refl) r) (in_cases x xs ys i)), apart_beside xs ys a.1 b (λ z i. h z (inr i)))
