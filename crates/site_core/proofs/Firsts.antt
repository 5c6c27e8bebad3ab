-- The first refusal among the spots at which is waited, one after another.
use Rattle.std.proofs.Common.{◌≡◌, ℕ, suc, ◌+◌, ◌<◌, List, [], ◌∷◌, ◌++◌, length, map, take, drop, get_or, Option, Some, None, sym, ap, ◌∙◌, refl, take-append-drop, drop-cons}
use Rattle.std.proofs.lemmas.List.{map-append}
use Rattle.list_core.proofs.Growing.{more_of}
use Rattle.machine_core.specs.declared.reply.Body.{Body}
use Rattle.machine_core.specs.Arming.{first_of}
use Rattle.site_core.specs.Sites.{IsTold}

first_behind : {A : Type 0} (xs ys : List (Option A)) → first_of xs ≡ None → first_of (xs ++ ys) ≡ first_of ys
first_behind [] ys e = refl
first_behind (Some a ∷ xs) ys e = cc
first_behind (None ∷ xs) ys e = first_behind xs ys e

-- one more that is not refused
pub first_more : {X A : Type 0} (f : X → Option A) (xs : List X) (i : ℕ) (x : X) → i < length xs → x ≡ get_or xs i x → first_of (map f (take i xs)) ≡ None → f x ≡ None → first_of (map f (take (i + 1) xs)) ≡ None
first_more f xs i x below at before here =
    ap (λ l. first_of (map f l)) (more_of xs i x below at) ∙ ap first_of (map-append f (take i xs) (x ∷ []))
    ∙ first_behind (map f (take i xs)) (f x ∷ []) before ∙ ap (λ o. first_of (o ∷ [])) here

split : {X : Type 0} (xs : List X) (i : ℕ) (x : X) → i < length xs → x ≡ get_or xs i x → xs ≡ take i xs ++ x ∷ drop (suc i) xs
split xs i x below at = sym (take-append-drop i xs) ∙ ap (λ l. take i xs ++ l) (drop-cons xs i x below ∙ ap (λ y. y ∷ drop (suc i) xs) (sym at))

-- one that is refused, told where memory may have run out
pub first_told : {X : Type 0} (o : Option Body) (f : X → Option Body) (xs : List X) (i : ℕ) (x : X) → i < length xs → x ≡ get_or xs i x → first_of (map f (take i xs)) ≡ None → IsTold o (f x) → IsTold o (first_of (map f xs))
first_told None f xs i x below at before here = tt
first_told (Some a) f xs i x below at before here =
    ap (λ l. first_of (map f l)) (split xs i x below at) ∙ ap first_of (map-append f (take i xs) (x ∷ drop (suc i) xs))
    ∙ first_behind (map f (take i xs)) (f x ∷ map f (drop (suc i) xs)) before ∙ ap (λ o. first_of (o ∷ map f (drop (suc i) xs))) here
