-- Facts of lists, and of what passes a test in them.
use Rattle.std.proofs.Common.{◌≡◌, ℕ, zero, suc, Bool, true, false, cond, List, [], ◌∷◌, ◌++◌, length, map, Some, None, inl, inr, refl, ap, ◌∙◌}
use Rattle.std.specs.Prelude.{slice_get, find, filter, if◌then◌else◌}
use Rattle.std.specs.List.{flat_map}
use Rattle.std.proofs.lemmas.List.{map-append}
use Rattle.std.proofs.lemmas.Option.{none-some}
use Rattle.list_core.specs.Lists.{EachOf, IsIn}
use Rattle.exec_core.specs.Design.{or_else}

-- ---- one more element

pub get_left : {A : Type 0} (xs ys : List A) (k : ℕ) (x : A) → slice_get xs k ≡ Some x → slice_get (xs ++ ys) k ≡ Some x
get_left [] ys k x e = absurd (none-some x e)
get_left (z ∷ xs) ys zero x e = e
get_left (z ∷ xs) ys (suc k) x e = get_left xs ys k x e

pub get_last : {A : Type 0} (xs : List A) (x : A) → slice_get (xs ++ x ∷ []) (length xs) ≡ Some x
get_last [] x = refl
get_last (y ∷ xs) x = get_last xs x

pub find_push : {A : Type 0} (test : A → Bool) (xs : List A) (x : A) → find test (xs ++ x ∷ []) ≡ or_else (find test xs) (if test x then Some x else None)
find_push test [] x = refl
find_push test (y ∷ xs) x = by_head (test y) (find_push test xs x)
  where
    by_head : (b : Bool) → find test (xs ++ x ∷ []) ≡ or_else (find test xs) (if test x then Some x else None) → cond b (Some y) (find test (xs ++ x ∷ [])) ≡ or_else (cond b (Some y) (find test xs)) (if test x then Some x else None)
    by_head true more = refl
    by_head false more = more

-- ---- those that pass a test

pub filter_in : {A : Type 0} (test : A → Bool) (xs : List A) (x : A) → IsIn x (filter test xs) → IsIn x xs × (test x ≡ true)
filter_in test [] x i = absurd i
filter_in test (y ∷ ys) x i = by_head (test y) refl (filter_in test ys x) i
  where
    by_head : (b : Bool) → test y ≡ b → (IsIn x (filter test ys) → IsIn x ys × (test x ≡ true)) → IsIn x (cond b (y ∷ filter test ys) (filter test ys)) → IsIn x (y ∷ ys) × (test x ≡ true)
    by_head true e more (inl s) = (inl s, ap test s ∙ e)
    by_head true e more (inr j) = let r = more j in (inr r.0, r.1)
    by_head false e more j = let r = more j in (inr r.0, r.1)

pub each_filter : {A : Type 0} (P : A → Type 0) (test : A → Bool) (xs : List A) → EachOf P xs → EachOf P (filter test xs)
each_filter P test [] h = tt
each_filter P test (y ∷ ys) h = by_head (test y) (each_filter P test ys h.1)
  where
    by_head : (b : Bool) → EachOf P (filter test ys) → EachOf P (cond b (y ∷ filter test ys) (filter test ys))
    by_head true more = (h.0, more)
    by_head false more = more

filter_join : {A : Type 0} (test : A → Bool) (xs ys : List A) → filter test (xs ++ ys) ≡ filter test xs ++ filter test ys
filter_join test [] ys = refl
filter_join test (x ∷ xs) ys = by_head (test x) (filter_join test xs ys)
  where
    by_head : (b : Bool) → filter test (xs ++ ys) ≡ filter test xs ++ filter test ys → cond b (x ∷ filter test (xs ++ ys)) (filter test (xs ++ ys)) ≡ cond b (x ∷ filter test xs) (filter test xs) ++ filter test ys
    by_head true more = ap (λ l. x ∷ l) more
    by_head false more = more

-- those of lists one after another, by what each element of another list gives
pub picked_flat : {A B C : Type 0} (f : B → C) (test : B → Bool) (g : A → List B) (h : A → List C) → ((x : A) → map f (filter test (g x)) ≡ h x) → (xs : List A) → map f (filter test (flat_map g xs)) ≡ flat_map h xs
picked_flat f test g h each [] = refl
picked_flat f test g h each (x ∷ xs) =
    ap (map f) (filter_join test (g x) (flat_map g xs)) ∙ map-append f (filter test (g x)) (filter test (flat_map g xs))
    ∙ ap (λ l. l ++ map f (filter test (flat_map g xs))) (each x) ∙ ap (λ l. h x ++ l) (picked_flat f test g h each xs)
