-- Whether an element of a list passes a test, over lists that are mapped, filtered and joined.
use Rattle.std.proofs.Common.{◌≡◌, ℕ, ◌==◌, ◌&&◌, ◌||◌, Bool, true, false, cond, List, [], ◌∷◌, map, filter, refl, ap, ap₂, ◌∙◌, sym, eqb-true, inl, inr}
use Rattle.std.specs.Prelude.{nat_eq}
use Rattle.std.specs.List.{list_any, flat_map}
use Rattle.std.proofs.lemmas.Bool.{eq-eqb}
use Rattle.std.proofs.lemmas.List.Folds.{list_any-append}
use Rattle.list_core.specs.Lists.{EachOf, IsIn}

-- ---- tests that agree

pub any_alike : {A : Type 0} (p q : A → Bool) → ((x : A) → p x ≡ q x) → (xs : List A) → list_any p xs ≡ list_any q xs
any_alike p q same xs = (λ j. list_any (λ x. same x j) xs)

pub any_in : {A : Type 0} (p q : A → Bool) (xs : List A) → ((x : A) → IsIn x xs → p x ≡ q x) → list_any p xs ≡ list_any q xs
any_in p q [] h = refl
any_in p q (x ∷ xs) h = ap₂ (λ a b. a || b) (h x (inl refl)) (any_in p q xs (λ y i. h y (inr i)))

pub any_each : {A : Type 0} (P : A → Type 0) (p q : A → Bool) → ((x : A) → P x → p x ≡ q x) → (xs : List A) → EachOf P xs → list_any p xs ≡ list_any q xs
any_each P p q same [] h = refl
any_each P p q same (x ∷ xs) h = ap₂ (λ a b. a || b) (same x h.0) (any_each P p q same xs h.1)

-- ---- lists that are made of others

pub any_mapped : {A B : Type 0} (p : B → Bool) (f : A → B) (xs : List A) → list_any p (map f xs) ≡ list_any (λ x. p (f x)) xs
any_mapped p f [] = refl
any_mapped p f (x ∷ xs) = ap (λ b. p (f x) || b) (any_mapped p f xs)

kept : {A : Type 0} (p : A → Bool) (x : A) (xs : List A) (b rest : Bool) → list_any p xs ≡ rest → list_any p (cond b (x ∷ xs) xs) ≡ ((b && p x) || rest)
kept p x xs true rest e = ap (λ c. p x || c) e
kept p x xs false rest e = e

pub any_filtered : {A : Type 0} (p q : A → Bool) (xs : List A) → list_any p (filter q xs) ≡ list_any (λ x. q x && p x) xs
any_filtered p q [] = refl
any_filtered p q (x ∷ xs) = kept p x (filter q xs) (q x) _ (any_filtered p q xs)

pub any_joined : {A B : Type 0} (p : B → Bool) (f : A → List B) (xs : List A) → list_any p (flat_map f xs) ≡ list_any (λ x. list_any p (f x)) xs
any_joined p f [] = refl
any_joined p f (x ∷ xs) = list_any-append p (f x) (flat_map f xs) ∙ ap (λ b. list_any p (f x) || b) (any_joined p f xs)

-- ---- tests that are made of others

pub any_never : {A : Type 0} (xs : List A) → list_any (λ x. false) xs ≡ false
any_never [] = refl
any_never (x ∷ xs) = any_never xs

pub any_both : {A : Type 0} (b : Bool) (p : A → Bool) (xs : List A) → list_any (λ x. b && p x) xs ≡ (b && list_any p xs)
any_both true p xs = refl
any_both false p xs = any_never xs

four : (a b c d : Bool) → ((a || b) || (c || d)) ≡ ((a || c) || (b || d))
four true b c d = refl
four false true true d = refl
four false true false d = refl
four false false c d = refl

pub any_either : {A : Type 0} (p q : A → Bool) (xs : List A) → list_any (λ x. p x || q x) xs ≡ (list_any p xs || list_any q xs)
any_either p q [] = refl
any_either p q (x ∷ xs) = ap (λ b. (p x || q x) || b) (any_either p q xs) ∙ four (p x) (q x) (list_any p xs) (list_any q xs)

-- the order of two lists does not matter
pub any_swapped : {A B : Type 0} (f : A → B → Bool) (xs : List A) (ys : List B) → list_any (λ x. list_any (f x) ys) xs ≡ list_any (λ y. list_any (λ x. f x y) xs) ys
any_swapped f [] ys = sym (any_never ys)
any_swapped f (x ∷ xs) ys = ap (λ b. list_any (f x) ys || b) (any_swapped f xs ys) ∙ sym (any_either (f x) (λ y. list_any (λ z. f z y) xs) ys)

-- ---- a number among numbers

once : (here : Bool) (k x : ℕ) (g : ℕ → Bool) (rest : Bool) → (x == k) ≡ here → (((x == k) && g x) || (rest && g k)) ≡ ((nat_eq k x || rest) && g k)
once true k x g rest e =
    let same : x ≡ k = eqb-true x k e in
    let back : nat_eq k x ≡ true = eq-eqb k x (sym same) in
    ap (λ b. (b && g x) || (rest && g k)) e ∙ ap (λ y. g y || (rest && g k)) same ∙ twice (g k) rest ∙ ap (λ b. (b || rest) && g k) (sym back)
  where
    twice : (a b : Bool) → (a || (b && a)) ≡ a
    twice true b = refl
    twice false true = refl
    twice false false = refl
once false k x g rest e = ap (λ b. (b && g x) || (rest && g k)) e ∙ ap (λ b. (b || rest) && g k) (sym (other (nat_eq k x) refl))
  where
    other : (b : Bool) → nat_eq k x ≡ b → nat_eq k x ≡ false
    other true t = absurd (apart (sym e ∙ eq-eqb x k (sym (eqb-true k x t))))
      where
        apart : false ≡ true → ⊥
        apart f = cc
    other false t = t

pub any_own : (k : ℕ) (g : ℕ → Bool) (xs : List ℕ) → list_any (λ x. (x == k) && g x) xs ≡ (list_any (nat_eq k) xs && g k)
any_own k g [] = refl
any_own k g (x ∷ xs) = ap (λ b. ((x == k) && g x) || b) (any_own k g xs) ∙ once (x == k) k x g (list_any (nat_eq k) xs) refl
