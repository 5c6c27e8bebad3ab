-- The folder of a name ends behind its last slash.
use Rattle.std.proofs.Common.{◌≡◌, ℕ, zero, suc, ◌<◌, ◌≤◌, ◌+◌, ◌-◌, ◌==◌, Bool, true, false, ◌||◌, List, [], ◌∷◌, length, take, drop, get_or, if◌then◌else◌, refl, sym, ap, subst, ◌∙◌, arith, ◌⊎◌, inl, inr}
use Rattle.std.specs.List.{list_any}
use Rattle.std.specs.Str.{IsUtf8, IsCharBoundary}
use Rattle.std.proofs.lemmas.Str.{IsCharBoundary-after_ascii, IsCharBoundary-start}
use Rattle.project_read.specs.Names.{folder_of}

abbrev has_slash : List ℕ → Bool
has_slash bytes = list_any (λ b. b == 47) bytes

-- a slash ends the front of this length
abbrev ends_so : List ℕ → ℕ → Type 0
ends_so bytes zero = Unit {0}
ends_so bytes (suc n) = (get_or bytes n 0 == 47) ≡ true

either : (a b : Bool) → b ≡ true → (a || b) ≡ true
either true b e = refl
either false b e = e

slash_in : (bytes : List ℕ) (n : ℕ) → n < length bytes → (get_or bytes n 0 == 47) ≡ true → has_slash bytes ≡ true
slash_in [] n h e = absurd (omega (arith, h))
slash_in (b ∷ bytes) zero h e = by (b == 47) (has_slash bytes) e
  where
    by : (x y : Bool) → x ≡ true → (x || y) ≡ true
    by true y e = refl
    by false y e = absurd (cc)
slash_in (b ∷ bytes) (suc n) h e = either (b == 47) (has_slash bytes) (slash_in bytes n (omega (arith, h)) e)

no_slash : (bytes : List ℕ) → has_slash bytes ≡ false → folder_of bytes ≡ []
no_slash [] e = refl
no_slash (b ∷ bytes) e = by (has_slash (b ∷ bytes)) (folder_of bytes) e
  where
    by : (x : Bool) (l : List ℕ) → x ≡ false → (if x then b ∷ l else []) ≡ []
    by true l e = absurd (cc)
    by false l e = refl

with_slash : (b : ℕ) (bytes : List ℕ) → has_slash (b ∷ bytes) ≡ true → folder_of (b ∷ bytes) ≡ b ∷ folder_of bytes
with_slash b bytes e = by (has_slash (b ∷ bytes)) e
  where
    by : (x : Bool) → x ≡ true → (if x then b ∷ folder_of bytes else []) ≡ b ∷ folder_of bytes
    by true e = refl
    by false e = absurd (cc)

pub is_folder : (bytes : List ℕ) (n : ℕ) → n ≤ length bytes → has_slash (drop n bytes) ≡ false → ends_so bytes n → take n bytes ≡ folder_of bytes
is_folder bytes zero h e s = sym (no_slash bytes e)
is_folder [] (suc n) h e s = absurd (omega (arith, h))
is_folder (b ∷ bytes) (suc zero) h e s = ap (λ (l : List ℕ). b ∷ l) (is_folder bytes zero (omega arith) e tt) ∙ sym (with_slash b bytes (slash_in (b ∷ bytes) zero (omega (arith, h)) s))
is_folder (b ∷ bytes) (suc (suc n)) h e s =
    ap (λ (l : List ℕ). b ∷ l) (is_folder bytes (suc n) (omega (arith, h)) e s) ∙ sym (with_slash b bytes (slash_in (b ∷ bytes) (suc n) (omega (arith, h)) s))

pub none_before : (bytes : List ℕ) (n : ℕ) → n ≡ 0 → has_slash (drop n bytes) ≡ false → take n bytes ≡ folder_of bytes
none_before bytes zero e h = is_folder bytes zero (omega arith) h tt
none_before bytes (suc n) e h = absurd (omega (arith, e))

pub one_before : (bytes : List ℕ) (n : ℕ) → n ≤ length bytes → 0 < n → has_slash (drop n bytes) ≡ false → get_or bytes (n - 1) 0 ≡ 47 → take n bytes ≡ folder_of bytes
one_before bytes zero l h e s = absurd (omega (arith, h))
one_before bytes (suc n) l h e s =
    let before : suc n - 1 ≡ n = omega arith in
    is_folder bytes (suc n) l e (ap (λ (b : ℕ). b == 47) (subst (λ (k : ℕ). get_or bytes k 0 ≡ 47) before s))

-- behind a slash stands a character
pub boundary : (bytes : List ℕ) (n : ℕ) → IsUtf8 bytes → n ≤ length bytes → (n ≡ 0) ⊎ (get_or bytes (n - 1) 0 ≡ 47) → IsCharBoundary bytes n
boundary bytes zero u l s = IsCharBoundary-start bytes u
boundary bytes (suc n) u l (inl e) = absurd (omega (arith, e))
boundary bytes (suc n) u l (inr s) =
    let before : suc n - 1 ≡ n = omega arith in
    let slash : get_or bytes n 0 ≡ 47 = subst (λ (k : ℕ). get_or bytes k 0 ≡ 47) before s in
    subst (IsCharBoundary bytes) (let z : n + 1 ≡ suc n = omega arith in z) (IsCharBoundary-after_ascii bytes n u (omega (arith, l)) (omega (arith, slash)))
