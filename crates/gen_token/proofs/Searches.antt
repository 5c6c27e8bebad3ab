-- What a search in a list finds, and what an option holds.
use Rattle.std.proofs.Common.{◌≡◌, Bool, true, false, cond, List, [], ◌∷◌, Option, Some, None, find, refl, subst}
use Rattle.std.specs.List.{list_all}
use Rattle.std.specs.Option.{option_map}
use Rattle.std.specs.Prelude.{option_and_then}
use Rattle.gen_token.proofs.Fronts.{both_true}

find_passes_by : {X : Type 0} (p : X → Bool) (x : X) (xs : List X) (found : X) (passed : Bool) → p x ≡ passed → cond passed (Some x) (find p xs) ≡ Some found → (find p xs ≡ Some found → p found ≡ true) → p found ≡ true
find_passes_by {X = X} p x xs found true e h more = let same : x ≡ found = cc in subst (λ (y : X). p y ≡ true) same e
find_passes_by p x xs found false e h more = more h

-- what a search finds passes
pub find_passes : {X : Type 0} (p : X → Bool) (xs : List X) (found : X) → find p xs ≡ Some found → p found ≡ true
find_passes p [] found e = absurd (cc)
find_passes p (x ∷ xs) found e = find_passes_by p x xs found (p x) refl e (find_passes p xs found)

find_all_by : {X : Type 0} (p q : X → Bool) (x : X) (xs : List X) (found : X) (passed : Bool) → q x ≡ true → cond passed (Some x) (find p xs) ≡ Some found → (find p xs ≡ Some found → q found ≡ true) → q found ≡ true
find_all_by {X = X} p q x xs found true e h more = let same : x ≡ found = cc in subst (λ (y : X). q y ≡ true) same e
find_all_by p q x xs found false e h more = more h

-- what holds of all holds of what a search finds
pub find_all : {X : Type 0} (p q : X → Bool) (xs : List X) (found : X) → list_all q xs ≡ true → find p xs ≡ Some found → q found ≡ true
find_all p q [] found all e = absurd (cc)
find_all p q (x ∷ xs) found all e =
    let b = both_true (q x) (list_all q xs) all in
    find_all_by p q x xs found (p x) b.0 e (find_all p q xs found b.1)

none_after_by : {X : Type 0} (p : X → Bool) (x : X) (xs : List X) (passed : Bool) → cond passed (Some x) (find p xs) ≡ None → find p xs ≡ None
none_after_by p x xs true h = absurd (cc)
none_after_by p x xs false h = h

-- what a search does not find in all it does not find in the others
pub none_after : {X : Type 0} (p : X → Bool) (x : X) (xs : List X) → find p (x ∷ xs) ≡ None → find p xs ≡ None
none_after p x xs h = none_after_by p x xs (p x) h

-- what a map made something of
pub map_some : {A B : Type 0} (f : A → B) (o : Option A) (b : B) → option_map f o ≡ Some b → (a : A) × (o ≡ Some a) × (f a ≡ b)
map_some f None b h = absurd (cc)
map_some f (Some a) b h = (a, refl, cc)

-- what a next step made something of
pub bind_some : {A B : Type 0} (f : A → Option B) (o : Option A) (b : B) → option_and_then f o ≡ Some b → (a : A) × (o ≡ Some a) × (f a ≡ Some b)
bind_some f None b h = absurd (cc)
bind_some f (Some a) b h = (a, refl, h)
