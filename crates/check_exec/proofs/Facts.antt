-- Facts of lists, of names and of the first fault that there is.
use Rattle.std.proofs.Common.{◌≡◌, ℕ, zero, suc, ◌+◌, Bool, true, false, true≢false, bytes_eq, List, [], ◌∷◌, ◌++◌, map, Option, Some, None, option_map, inl, inr, add-zero, refl, sym, ap, ◌∙◌, subst, arith}
use Rattle.std.specs.Prelude.{slice_get}
use Rattle.std.specs.List.{enumerate_from, flat_map, list_any}
use Rattle.std.proofs.lemmas.Bool.{or_cases, or_left, or_right}
use Rattle.std.proofs.lemmas.Option.{none-some, same_Some}
use Rattle.std.proofs.lemmas.Slice.Eq.{bytes_eq-Decides}
use Rattle.exec_core.specs.Block.{Name}
use Rattle.list_core.specs.Lists.{EachOf, IsIn}
use Rattle.check_core.specs.Faults.{earlier, first_of}

-- ---- names

pub same_name : (x y : Name) → bytes_eq x y ≡ true → x ≡ y
same_name x y e = (bytes_eq-Decides x y).0 e

pub name_same : (x y : Name) → x ≡ y → bytes_eq x y ≡ true
name_same x y e = (bytes_eq-Decides x y).1 e

pub eq_turned : (x y : Name) → bytes_eq x y ≡ bytes_eq y x
eq_turned x y = by_test (bytes_eq x y) (bytes_eq y x) refl refl
  where
    by_test : (a b : Bool) → bytes_eq x y ≡ a → bytes_eq y x ≡ b → a ≡ b
    by_test true true e f = refl
    by_test false false e f = refl
    by_test true false e f = sym (name_same y x (sym (same_name x y e))) ∙ f
    by_test false true e f = sym e ∙ name_same x y (sym (same_name y x f))

-- ---- lists

pub each_at : {A : Type 0} (P : A → Type 0) (list : List A) (i : ℕ) (a : A) → slice_get list i ≡ Some a → EachOf P list → P a
each_at P [] i a e h = absurd (none-some a e)
each_at P (b ∷ list) zero a e h = subst P (same_Some b a e) h.0
each_at P (b ∷ list) (suc i) a e h = each_at P list i a e h.1

pub each_joined : {A : Type 0} (P : A → Type 0) (a b : List A) → EachOf P a → EachOf P b → EachOf P (a ++ b)
each_joined P [] b h g = g
each_joined P (x ∷ a) b h g = (h.0, each_joined P a b h.1 g)

pub each_left : {A : Type 0} (P : A → Type 0) (a b : List A) → EachOf P (a ++ b) → EachOf P a
each_left P [] b h = tt
each_left P (x ∷ a) b h = (h.0, each_left P a b h.1)

pub each_right : {A : Type 0} (P : A → Type 0) (a b : List A) → EachOf P (a ++ b) → EachOf P b
each_right P [] b h = h
each_right P (x ∷ a) b h = each_right P a b h.1

pub each_map : {A B : Type 0} (P : B → Type 0) (f : A → B) (list : List A) → ((a : A) → IsIn a list → P (f a)) → EachOf P (map f list)
each_map P f [] h = tt
each_map P f (a ∷ list) h = (h a (inl refl), each_map P f list (λ b i. h b (inr i)))

pub each_flat : {A B : Type 0} (P : B → Type 0) (f : A → List B) (list : List A) → ((a : A) → IsIn a list → EachOf P (f a)) → EachOf P (flat_map f list)
each_flat P f [] h = tt
each_flat P f (a ∷ list) h = each_joined P (f a) (flat_map f list) (h a (inl refl)) (each_flat P f list (λ b i. h b (inr i)))

pub in_at : {A : Type 0} (list : List A) (i : ℕ) (a : A) → slice_get list i ≡ Some a → IsIn a list
in_at [] i a e = absurd (none-some a e)
in_at (b ∷ list) zero a e = inl (sym (same_Some b a e))
in_at (b ∷ list) (suc i) a e = inr (in_at list i a e)

pub in_index : {A : Type 0} (list : List A) (a : A) → IsIn a list → (i : ℕ) × (slice_get list i ≡ Some a)
in_index [] a i = absurd i
in_index (b ∷ list) a (inl e) = (zero, ap (λ x. Some x) (sym e))
in_index (b ∷ list) a (inr i) = let found = in_index list a i in (suc found.0, found.1)

pub each_index : {A : Type 0} (P : A → Type 0) (list : List A) → ((i : ℕ) (a : A) → slice_get list i ≡ Some a → P a) → EachOf P list
each_index P [] h = tt
each_index P (a ∷ list) h = (h zero a refl, each_index P list (λ i b e. h (suc i) b e))

-- elements with their numbers
pub each_numbered : {A : Type 0} (P : ℕ × A → Type 0) (n : ℕ) (list : List A) → ((j : ℕ) (a : A) → slice_get list j ≡ Some a → P (n + j, a)) → EachOf P (enumerate_from n list)
each_numbered P n [] h = tt
each_numbered P n (a ∷ list) h =
    (subst (λ k. P (k, a)) (add-zero n) (h zero a refl), each_numbered P (n + 1) list (λ j b e. subst (λ k. P (k, b)) (further n j) (h (suc j) b e)))
  where
    further : (n j : ℕ) → n + suc j ≡ n + 1 + j
    further n j = omega arith

pub from_zero : {A : Type 0} (P : ℕ × A → Type 0) (list : List A) → ((j : ℕ) (a : A) → slice_get list j ≡ Some a → P (j, a)) → EachOf P (enumerate_from 0 list)
from_zero P list h = each_numbered P 0 list (λ j a e. subst (λ k. P (k, a)) (zero_more j) (h j a e))
  where
    zero_more : (j : ℕ) → j ≡ 0 + j
    zero_more j = omega arith

-- an element that passes a test
pub any_in : {A : Type 0} (p : A → Bool) (list : List A) → list_any p list ≡ true → (a : A) × (IsIn a list × (p a ≡ true))
any_in p [] e = absurd (true≢false (sym e))
any_in p (a ∷ list) e = elim (or_cases (p a) (list_any p list) e) [
  | inl h ↦ (a, (inl refl, h))
  | inr h ↦ let found = any_in p list h in (found.0, (inr found.1.0, found.1.1))
]

pub in_any : {A : Type 0} (p : A → Bool) (list : List A) (a : A) → IsIn a list → p a ≡ true → list_any p list ≡ true
in_any p [] a i h = absurd i
in_any p (b ∷ list) a (inl e) h = or_left (p b) (list_any p list) (subst (λ c. p c ≡ true) e h)
in_any p (b ∷ list) a (inr i) h = or_right (p b) (list_any p list) (in_any p list a i h)

-- ---- the first fault

pub earlier_left : {A : Type 0} (a b : Option A) → earlier a b ≡ None → a ≡ None
earlier_left (Some x) b e = e
earlier_left None b e = refl

pub earlier_right : {A : Type 0} (a b : Option A) → earlier a b ≡ None → b ≡ None
earlier_right (Some x) b e = absurd (none-some x (sym e))
earlier_right None b e = e

pub none_found : {X A : Type 0} (find : X → Option A) (list : List X) → first_of find list ≡ None → EachOf (λ x. find x ≡ None) list
none_found find [] e = tt
none_found find (x ∷ list) e = (earlier_left (find x) (first_of find list) e, none_found find list (earlier_right (find x) (first_of find list) e))

pub map_none : {A B : Type 0} (f : A → B) (o : Option A) → option_map f o ≡ None → o ≡ None
map_none f (Some a) e = absurd (none-some (f a) (sym e))
map_none f None e = refl
