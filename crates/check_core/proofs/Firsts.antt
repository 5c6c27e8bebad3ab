-- The first fault of lists, one element after another.
use Rattle.std.proofs.Common.{◌≡◌, ℕ, ◌+◌, ◌<◌, ◌≤◌, List, map, length, drop, get_or, Option, Some, None, sym, ap, ◌∙◌}
use Rattle.std.proofs.lemmas.List.{drop_more}
use Rattle.std.proofs.Math.ListN.{drop_of_length-le}
use Rattle.check_core.specs.Faults.{earlier, first_of}

-- ---- the first of two

pub earlier_none : {A : Type 0} (a b c : Option A) → a ≡ None → b ≡ c → earlier a b ≡ c
earlier_none a b c e f = ap (λ o. earlier o b) e ∙ f

pub earlier_some : {A : Type 0} (a b : Option A) (x : A) → a ≡ Some x → earlier a b ≡ Some x
earlier_some a b x e = ap (λ o. earlier o b) e

-- ---- the first of a list

pub first_next : {X Y A : Type 0} (f : Y → Option A) (view : X → Y) (xs : List X) (i : ℕ) (x : X) → i < length xs → x ≡ get_or xs i x → f (view x) ≡ None
    → first_of f (map view (drop (i + 1) xs)) ≡ first_of f (map view (drop i xs))
first_next f view xs i x inside at none =
    sym (ap (λ l. first_of f (map view l)) (drop_more xs i x inside) ∙ ap (λ y. earlier (f (view y)) (first_of f (map view (drop (i + 1) xs)))) (sym at)
    ∙ ap (λ o. earlier o (first_of f (map view (drop (i + 1) xs)))) none)

pub first_at : {X Y A : Type 0} (f : Y → Option A) (view : X → Y) (xs : List X) (i : ℕ) (x : X) (fault : A) → i < length xs → x ≡ get_or xs i x → f (view x) ≡ Some fault
    → first_of f (map view (drop i xs)) ≡ Some fault
first_at f view xs i x fault inside at some =
    ap (λ l. first_of f (map view l)) (drop_more xs i x inside) ∙ ap (λ y. earlier (f (view y)) (first_of f (map view (drop (i + 1) xs)))) (sym at)
    ∙ ap (λ o. earlier o (first_of f (map view (drop (i + 1) xs)))) some

pub first_end : {X Y A : Type 0} (f : Y → Option A) (view : X → Y) (xs : List X) (i : ℕ) → length xs ≤ i → first_of f (map view (drop i xs)) ≡ None
first_end f view xs i past = ap (λ l. first_of f (map view l)) (drop_of_length-le xs past)

-- the same of a list as it is

pub plain_next : {X A : Type 0} (f : X → Option A) (xs : List X) (i : ℕ) (x : X) → i < length xs → x ≡ get_or xs i x → f x ≡ None
    → first_of f (drop (i + 1) xs) ≡ first_of f (drop i xs)
plain_next f xs i x inside at none =
    sym (ap (first_of f) (drop_more xs i x inside) ∙ ap (λ y. earlier (f y) (first_of f (drop (i + 1) xs))) (sym at)
    ∙ ap (λ o. earlier o (first_of f (drop (i + 1) xs))) none)

pub plain_at : {X A : Type 0} (f : X → Option A) (xs : List X) (i : ℕ) (x : X) (fault : A) → i < length xs → x ≡ get_or xs i x → f x ≡ Some fault
    → first_of f (drop i xs) ≡ Some fault
plain_at f xs i x fault inside at some =
    ap (first_of f) (drop_more xs i x inside) ∙ ap (λ y. earlier (f y) (first_of f (drop (i + 1) xs))) (sym at)
    ∙ ap (λ o. earlier o (first_of f (drop (i + 1) xs))) some

pub plain_end : {X A : Type 0} (f : X → Option A) (xs : List X) (i : ℕ) → length xs ≤ i → first_of f (drop i xs) ≡ None
plain_end f xs i past = ap (first_of f) (drop_of_length-le xs past)

pub ruleset two_steps = (earlier_none, earlier_some)

pub ruleset list_steps = (first_next, first_at, first_end)

pub ruleset plain_steps = (plain_next, plain_at, plain_end)
