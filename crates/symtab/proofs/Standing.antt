-- Where a place stands among the places of its number.
use Rattle.std.proofs.Common.{◌≡◌, ℕ, zero, suc, ◌+◌, ◌<◌, ◌==◌, Bool, true, false, cond, List, [], ◌∷◌, Some, None, All, length, take, get_or, nat_lt, refl, sym, ap, ◌∙◌, subst, arith, lt-ltb, eq-eqb, position}
use Rattle.std.specs.List.{slice_get, position_or_len}
use Rattle.std.proofs.lemmas.Bool.{ne_eqb}
use Rattle.std.proofs.lemmas.Option.{slice_get-get_or}
use Rattle.symtab.specs.Places.{places, places_from}

-- a number stands at this place, counted from the first
pub record IsPlace (first number : ℕ) (xs : List ℕ) (counted : ℕ) : Type 0 where
  pub place : ℕ
  pub is : counted ≡ first + place
  pub within : place < length xs
  pub same : (get_or xs place 0 == number) ≡ true

later : (first number x : ℕ) (xs : List ℕ) (counted : ℕ) → IsPlace (first + 1) number xs counted → IsPlace first number (x ∷ xs) counted
later first number x xs counted found = record { place = suc found.place; is = omega (arith, found.is); within = omega (arith, found.within); same = found.same }

here_or_later : (here : Bool) (first number x : ℕ) (xs rest : List ℕ) (at counted : ℕ) → (x == number) ≡ here → slice_get (cond here (first ∷ rest) rest) at ≡ Some counted →
    ((j : ℕ) → slice_get rest j ≡ Some counted → IsPlace (first + 1) number xs counted) → IsPlace first number (x ∷ xs) counted
here_or_later true first number x xs rest zero counted is found others =
    let counts : first ≡ counted = cc in
    record { place = 0; is = omega (arith, counts); within = omega arith; same = is }
here_or_later true first number x xs rest (suc at) counted is found others = later first number x xs counted (others at found)
here_or_later false first number x xs rest at counted is found others = later first number x xs counted (others at found)

-- what is among the places is one
pub stands : (first number : ℕ) (xs : List ℕ) (at counted : ℕ) → slice_get (places_from first number xs) at ≡ Some counted → IsPlace first number xs counted
stands first number [] at counted found = cc
stands first number (x ∷ xs) at counted found =
    here_or_later (x == number) first number x xs (places_from (first + 1) number xs) at counted refl found (λ j there. stands (first + 1) number xs j counted there)

skipped : (here : Bool) (first target : ℕ) (whole front : List ℕ) → (first == target) ≡ false → position_or_len (λ other. other == target) whole ≡ length front →
    position_or_len (λ other. other == target) (cond here (first ∷ whole) whole) ≡ length (cond here (first ∷ front) front)
skipped true first target whole front differs found = rw (differs, found) (omega arith)
skipped false first target whole front differs found = found

-- a place is the first of its own number, after those before it
pub position_from_rank : (first number : ℕ) (xs : List ℕ) (place : ℕ) → place < length xs → (get_or xs place 0 == number) ≡ true →
    position_or_len (λ other. other == first + place) (places_from first number xs) ≡ length (places_from first number (take place xs))
position_from_rank first number [] place within same = absurd (omega arith)
position_from_rank first number (x ∷ xs) zero within same =
    let itself : (first == first + 0) ≡ true = eq-eqb first (first + 0) (omega arith) in
    rw (same, itself) refl
position_from_rank first number (x ∷ xs) (suc place) within same =
    let moved : first + 1 + place ≡ first + suc place = omega arith in
    let differs : (first == first + suc place) ≡ false = ne_eqb first (first + suc place) (λ equal. omega (arith, equal)) in
    let found = position_from_rank (first + 1) number xs place (omega arith) same in
    skipped (x == number) first (first + suc place) (places_from (first + 1) number xs) (places_from (first + 1) number (take place xs)) differs
    (subst (λ target. position_or_len (λ other. other == target) (places_from (first + 1) number xs) ≡ length (places_from (first + 1) number (take place xs))) moved found)

-- the first place that passes is the place
pub position_at : (xs : List ℕ) (instance at : ℕ) → position_or_len (λ other. other == instance) xs ≡ at → at < length xs → position (λ other. other == instance) xs ≡ Some at
position_at xs instance at is within =
    ap (λ n. cond (nat_lt n (length xs)) (Some n) None) is ∙ ap (λ b. cond b (Some at) None) (lt-ltb at (length xs) within)

-- each place of a number is a place of the list
pub places_within : (first number : ℕ) (xs : List ℕ) → All (λ counted. counted < first + length xs) (places_from first number xs)
places_within first number xs at d within =
    let stood = stands first number xs at (get_or (places_from first number xs) at d) (slice_get-get_or (places_from first number xs) at d within) in
    omega (arith, stood.is, stood.within)

found_first : (here : Bool) (first at counted : ℕ) (rest : List ℕ) → slice_get (cond here (first ∷ rest) rest) at ≡ Some counted →
    ((j : ℕ) → slice_get rest j ≡ Some counted → (first < counted) × (position_or_len (λ other. other == counted) rest ≡ j)) →
    position_or_len (λ other. other == counted) (cond here (first ∷ rest) rest) ≡ at
found_first true first zero counted rest is others =
    let counts : first ≡ counted = cc in
    rw (eq-eqb first counted counts) refl
found_first true first (suc at) counted rest is others =
    let after = others at is in
    rw (ne_eqb first counted (λ equal. omega (arith, equal, after.0)), after.1) (omega arith)
found_first false first at counted rest is others = (others at is).1

-- a place stands once among the places of its number
pub found_once : (first number : ℕ) (xs : List ℕ) (at counted : ℕ) → slice_get (places_from first number xs) at ≡ Some counted → position_or_len (λ other. other == counted) (places_from first number xs) ≡ at
found_once first number [] at counted is = cc
found_once first number (x ∷ xs) at counted is =
    found_first (x == number) first at counted (places_from (first + 1) number xs) is
    (λ j there. let stood = stands (first + 1) number xs j counted there in (omega (arith, stood.is), found_once (first + 1) number xs j counted there))

-- the same of a list that is those places
pub all_within : (number : ℕ) (xs own : List ℕ) → own ≡ places number xs → All (λ place. place < length xs) own
all_within number xs own are =
    let counted : 0 + length xs ≡ length xs = omega arith in
    subst (λ (l : List ℕ). All (λ place. place < length xs) l) (sym are)
    (subst (λ most. All (λ place. place < most) (places number xs)) counted (places_within 0 number xs))
