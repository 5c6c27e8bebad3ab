-- The places of a number in a list that grows.
use Rattle.std.proofs.Common.{◌≡◌, ℕ, ◌+◌, ◌<◌, ◌≤◌, ◌==◌, suc, zero, Bool, true, false, cond, List, [], ◌∷◌, ◌++◌, Some, length, take, get_or, refl, ap, ◌∙◌, arith, add-zero}
use Rattle.std.specs.List.{slice_get}
use Rattle.std.proofs.lemmas.List.{take_more, length-take}
use Rattle.symtab.specs.Places.{places, places_from}

-- what comes at the end stays there
at_end : (here : Bool) (first : ℕ) (front end whole : List ℕ) → whole ≡ front ++ end → cond here (first ∷ whole) whole ≡ cond here (first ∷ front) front ++ end
at_end true first front end whole split = ap (λ rest. first ∷ rest) split
at_end false first front end whole split = split

-- one entry more, at the end
pub places_from-push : (first number x : ℕ) (xs : List ℕ) → places_from first number (xs ++ x ∷ []) ≡ places_from first number xs ++ cond (x == number) ((first + length xs) ∷ []) []
places_from-push first number x [] = rw (add-zero first) refl
places_from-push first number x (y ∷ xs) =
    let moved : first + 1 + length xs ≡ first + length (y ∷ xs) = omega arith in
    at_end (y == number) first (places_from (first + 1) number xs) _ _ (places_from-push (first + 1) number x xs
    ∙ ap (λ place. places_from (first + 1) number xs ++ cond (x == number) (place ∷ []) []) moved)

-- one entry of a list more
pub places_more : (number : ℕ) (xs : List ℕ) (place : ℕ) → place < length xs → places number (take (place + 1) xs) ≡ places number (take place xs) ++ cond (get_or xs place 0 == number) (place ∷ []) []
places_more number xs place within =
    let count : 0 + length (take place xs) ≡ place = omega (arith, length-take place xs) in
    ap (places number) (take_more xs place 0 within)
    ∙ places_from-push 0 number (get_or xs place 0) (take place xs)
    ∙ ap (λ at. places number (take place xs) ++ cond (get_or xs place 0 == number) (at ∷ []) []) count

-- a number stands at no more places than there are
pub length-places_from : (first number : ℕ) (xs : List ℕ) → length (places_from first number xs) ≤ length xs
length-places_from first number [] = omega arith
length-places_from first number (x ∷ xs) = fewer (x == number) (places_from (first + 1) number xs) (length-places_from (first + 1) number xs)
  where
    fewer : (here : Bool) (rest : List ℕ) → length rest ≤ length xs → length (cond here (first ∷ rest) rest) ≤ length (x ∷ xs)
    fewer true rest least = omega arith
    fewer false rest least = omega arith

-- a number stands at no more places of a front than the front has
pub length-places : (number place : ℕ) (xs : List ℕ) → place ≤ length xs → length (places number (take place xs)) ≤ place
length-places number place xs within = omega (arith, length-places_from 0 number (take place xs), length-take place xs)

-- a place stands among the places of its number after those before it
found_at : (here : Bool) (first : ℕ) (front whole : List ℕ) → slice_get (cond here (first ∷ whole) whole) (length (cond here (first ∷ front) front)) ≡ slice_get whole (length front)
found_at true first front whole = refl
found_at false first front whole = refl

pub rank_from : (first number : ℕ) (xs : List ℕ) (place : ℕ) → place < length xs → (get_or xs place 0 == number) ≡ true → slice_get (places_from first number xs) (length (places_from first number (take place xs))) ≡ Some (first + place)
rank_from first number [] place within same = absurd (omega arith)
rank_from first number (x ∷ xs) zero within same = rw (same, add-zero first) refl
rank_from first number (x ∷ xs) (suc place) within same =
    let moved : first + 1 + place ≡ first + suc place = omega arith in
    found_at (x == number) first (places_from (first + 1) number (take place xs)) (places_from (first + 1) number xs)
    ∙ rank_from (first + 1) number xs place (omega arith) same
    ∙ ap (λ at. Some at) moved
