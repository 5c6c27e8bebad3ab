-- The place of a key among keys.
use Rattle.std.proofs.Common.{◌≡◌, ℕ, ◌+◌, ◌<◌, ◌≤◌, Bool, true, false, not, cond, ◌&&◌, ◌==◌, List, [], ◌∷◌, ◌++◌, map, length, Some, None, if◌then◌else◌, nat_lt, bytes_eq, ℤ, Vec, unwrap_or, suc, ◌||◌, refl, sym, ap, ap₂, ◌∙◌, arith}
use Rattle.std.specs.Global.{Global}
use Rattle.std.specs.Cmp.Lexicographic.{pointwise}
use Rattle.std.specs.Ordering.{int_eq}
use Rattle.std.specs.List.{list_any, position, position_or_len}
use Rattle.std.proofs.lemmas.List.{length-map, map-append}
use Rattle.std.proofs.lemmas.List.Sums.{prefix_len-le-length}
use Rattle.design_core.specs.Design.{Gens}
use Rattle.elab_core.specs.Design.{same_gens}
use Rattle.gen_elab.specs.Keys.{Key, same_key, key_place, the_params, the_key}

-- how the code compares parameters
abbrev pub params_eq : List (Vec ℕ Global × ℤ) → List (Vec ℕ Global × ℤ) → Bool
params_eq a b = pointwise (λ g h. bytes_eq g.0.items h.0.items && int_eq g.1 h.1) a b

pub params_eq_as : (a b : List (Vec ℕ Global × ℤ)) → params_eq a b ≡ same_gens (the_params a) (the_params b)
params_eq_as [] [] = refl
params_eq_as [] (h ∷ hs) = refl
params_eq_as (g ∷ gs) [] = refl
params_eq_as (g ∷ gs) (h ∷ hs) = ap (λ r. (bytes_eq g.0.items h.0.items && int_eq g.1 h.1) && r) (params_eq_as gs hs)

-- how the code compares keys
abbrev pub keys_eq : ℕ → List (Vec ℕ Global × ℤ) → ℕ × Vec (Vec ℕ Global × ℤ) Global → Bool
keys_eq place copy y = place == y.0 && params_eq copy y.1.items

pub found_as : (place : ℕ) (copy : List (Vec ℕ Global × ℤ)) (params : Gens) (keys : List (ℕ × Vec (Vec ℕ Global × ℤ) Global)) → the_params copy ≡ params
    → position_or_len (keys_eq place copy) keys ≡ key_place (place, params) (map the_key keys)
found_as place copy params [] e = refl
found_as place copy params (k ∷ keys) e =
    let same : keys_eq place copy k ≡ same_key (place, params) (the_key k) = ap (λ r. place == k.0 && r) (params_eq_as copy k.1.items ∙ ap (λ (p : Gens). same_gens p (the_params k.1.items)) e) in
    ap₂ (λ b n. cond (not b) (1 + n) 0) same (found_as place copy params keys e)

one_less : (n m : ℕ) → nat_lt n m ≡ nat_lt (1 + n) (suc m)
one_less n m = grind arith

any_before_end : {X : Type 0} (p : X → Bool) (xs : List X) → list_any p xs ≡ nat_lt (position_or_len p xs) (length xs)
any_before_end p [] = refl
any_before_end p (x ∷ xs) =
    elim (p x) as (λ b. (b || list_any p xs) ≡ nat_lt (cond (not b) (1 + position_or_len p xs) 0) (length (x ∷ xs))) [
      | true ↦ sym (first_less (length xs))
      | false ↦ any_before_end p xs ∙ one_less (position_or_len p xs) (length xs)
    ]
  where
    first_less : (n : ℕ) → nat_lt 0 (suc n) ≡ true
    first_less n = grind arith

-- what the code answers where a key is looked up
pub looked_up : {X : Type 0} (p : X → Bool) (xs : List X) → unwrap_or (position p xs) (length xs) ≡ position_or_len p xs
looked_up p xs = at_most (position_or_len p xs) (length xs) (within p xs)
  where
    within : {X : Type 0} (p : X → Bool) (xs : List X) → position_or_len p xs ≤ length xs
    within p [] = omega arith
    within p (x ∷ xs) = elim (p x) as (λ b. cond (not b) (1 + position_or_len p xs) 0 ≤ length (x ∷ xs)) [ true ↦ omega arith | false ↦ omega (arith, within p xs) ]

    at_most : (n m : ℕ) → n ≤ m → unwrap_or (cond (nat_lt n m) (Some n) None) m ≡ n
    at_most n m h = grind (arith, h)

-- a key is put last where it was not there
pub put_last : (place : ℕ) (copy : Vec (Vec ℕ Global × ℤ) Global) (params : Gens) (keys now : List (ℕ × Vec (Vec ℕ Global × ℤ) Global)) (at : ℕ)
    → the_params copy.items ≡ params → at ≡ position_or_len (keys_eq place copy.items) keys
    → now ≡ (if list_any (keys_eq place copy.items) keys then keys else keys ++ (place, copy) ∷ [])
    → map the_key now ≡ (if nat_lt at (length (map the_key keys)) then map the_key keys else map the_key keys ++ (place, params) ∷ [])
put_last place copy params keys now at e is grown =
    let test : list_any (keys_eq place copy.items) keys ≡ nat_lt at (length (map the_key keys)) =
    any_before_end (keys_eq place copy.items) keys ∙ ap₂ nat_lt (sym is) (sym (length-map keys the_key)) in
    ap (map the_key) grown ∙ mapped (list_any (keys_eq place copy.items) keys) ∙ ap (λ b. if b then map the_key keys else map the_key keys ++ (place, params) ∷ []) test
  where
    mapped : (b : Bool) → map the_key (if b then keys else keys ++ (place, copy) ∷ []) ≡ (if b then map the_key keys else map the_key keys ++ (place, params) ∷ [])
    mapped true = refl
    mapped false = map-append the_key keys ((place, copy) ∷ []) ∙ ap (λ (p : Gens). map the_key keys ++ (place, p) ∷ []) e

-- a place is no more than the number of keys
pub place_few : (key : Key) (keys : List Key) (n : ℕ) → n ≡ key_place key keys → length keys < 4294967295 → n < 4294967296
place_few key keys n is few = omega (arith, is, few, prefix_len-le-length (λ k. not (same_key key k)) keys)
