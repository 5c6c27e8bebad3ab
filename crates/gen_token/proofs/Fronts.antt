-- Fronts of a text whose bytes all pass a test.
use Rattle.std.proofs.Common.{◌≡◌, ℕ, ◌+◌, ◌<◌, ◌≤◌, suc, Bool, true, false, cond, ◌&&◌, List, [], ◌∷◌, ◌++◌, refl, length, take, arith, ◌||◌, drop}
use Rattle.std.specs.List.{prefix_len, list_all}
use Rattle.gen_token.specs.Bytes.{begins}

pub both_true : (a b : Bool) → (a && b) ≡ true → (a ≡ true) × (b ≡ true)
both_true true b h = (refl, h)
both_true false b h = absurd (cc)

-- a front that passes is no longer than the longest
pub front_within : (p : ℕ → Bool) (front more : List ℕ) → list_all p front ≡ true → length front ≤ prefix_len p (front ++ more)
front_within p [] more h = omega arith
front_within p (x ∷ xs) more h =
    let b = both_true (p x) (list_all p xs) h in
    rw (b.0) (omega (arith, front_within p xs more b.1))

-- the same of a text
pub front_of : (p : ℕ → Bool) (text front more : List ℕ) → text ≡ front ++ more → list_all p front ≡ true → length front ≤ prefix_len p text
front_of p text front more e h = rw e (front_within p front more h)

-- a front that passes, and then a byte that does not, is the longest
pub front_exact : (p : ℕ → Bool) (front : List ℕ) (byte : ℕ) (more : List ℕ) → list_all p front ≡ true → p byte ≡ false → prefix_len p (front ++ byte ∷ more) ≡ length front
front_exact p [] byte more h e = rw e refl
front_exact p (x ∷ xs) byte more h e =
    let b = both_true (p x) (list_all p xs) h in
    rw (b.0) (omega (arith, front_exact p xs byte more b.1 e))

passes_by : (p : ℕ → Bool) (x : ℕ) (xs : List ℕ) (passed : Bool) → p x ≡ passed → list_all p (take (prefix_len p xs) xs) ≡ true → list_all p (take (cond passed (1 + prefix_len p xs) 0) (x ∷ xs)) ≡ true
passes_by p x xs false e h = refl
passes_by p x xs true e h =
    let more : 1 + prefix_len p xs ≡ suc (prefix_len p xs) = omega arith in
    rw (more, e) h

-- the longest front passes
pub passes : (p : ℕ → Bool) (text : List ℕ) → list_all p (take (prefix_len p text) text) ≡ true
passes p [] = refl
passes p (x ∷ xs) = passes_by p x xs (p x) refl (passes p xs)

-- what begins a front begins the text
pub begins_front : (p : ℕ → Bool) (front more : List ℕ) → begins p front ≡ true → begins p (front ++ more) ≡ true
begins_front p [] more h = absurd (cc)
begins_front p (x ∷ xs) more h = h

-- where all bytes pass, of which there are some, the first passes
pub begins_all : (p : ℕ → Bool) (bytes : List ℕ) → 0 < length bytes → list_all p bytes ≡ true → begins p bytes ≡ true
begins_all p [] some h = absurd (omega arith)
begins_all p (x ∷ xs) some h = (both_true (p x) (list_all p xs) h).0

-- a front that passes, and then what does not begin so, is the longest
pub front_stops : (p : ℕ → Bool) (front rest : List ℕ) → list_all p front ≡ true → begins p rest ≡ false → prefix_len p (front ++ rest) ≡ length front
front_stops p [] [] h e = refl
front_stops p [] (byte ∷ bytes) h e = rw e refl
front_stops p (x ∷ xs) rest h e =
    let b = both_true (p x) (list_all p xs) h in
    rw (b.0) (omega (arith, front_stops p xs rest b.1 e))

stops_by : (p : ℕ → Bool) (x : ℕ) (xs : List ℕ) (passed : Bool) → p x ≡ passed → begins p (drop (prefix_len p xs) xs) ≡ false → begins p (drop (cond passed (1 + prefix_len p xs) 0) (x ∷ xs)) ≡ false
stops_by p x xs false e h = e
stops_by p x xs true e h =
    let more : 1 + prefix_len p xs ≡ suc (prefix_len p xs) = omega arith in
    rw more h

-- what follows the longest front does not begin so
pub stops : (p : ℕ → Bool) (text : List ℕ) → begins p (drop (prefix_len p text) text) ≡ false
stops p [] = refl
stops p (x ∷ xs) = stops_by p x xs (p x) refl (stops p xs)

less_by : (a b : Bool) → (b ≡ true → a ≡ true) → a ≡ false → b ≡ false
less_by a false less h = refl
less_by a true less h = let e : a ≡ true = less refl in cc

-- where one test passes if another does, what does not begin with the one does not begin with the other
pub begins_less : (p q : ℕ → Bool) → ((byte : ℕ) → q byte ≡ true → p byte ≡ true) → (text : List ℕ) → begins p text ≡ false → begins q text ≡ false
begins_less p q less [] h = refl
begins_less p q less (byte ∷ bytes) h = less_by (p byte) (q byte) (less byte) h

-- what begins with neither begins with none of both
pub neither : (p q : ℕ → Bool) (text : List ℕ) → begins p text ≡ false → begins q text ≡ false → begins (λ byte. p byte || q byte) text ≡ false
neither p q [] h e = refl
neither p q (byte ∷ bytes) h e = rw (h, e) refl
