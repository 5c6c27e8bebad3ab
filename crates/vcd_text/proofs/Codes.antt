-- Codes of variables: they are words of printable bytes, and different numbers have different ones.
use Rattle.std.proofs.Common.{◌≡◌, ℕ, zero, suc, ◌+◌, ◌-◌, ◌*◌, ◌/◌, ◌%◌, ◌<◌, ◌≤◌, Bool, true, false, cond, List, [], ◌∷◌, refl, sym, ap, ◌∙◌, arith}
use Rattle.std.specs.Prelude.{nat_lt, bytes_eq}
use Rattle.std.specs.List.{list_all}
use Rattle.std.proofs.lemmas.Bool.Decides.{nat_tests}
use Rattle.std.proofs.lemmas.Slice.Eq.{bytes_eq-Decides}
use Rattle.vcd_read.specs.Words.{has_bytes}
use Rattle.vcd_read.specs.Head.{is_code_byte}
use Rattle.vcd_text.specs.Dump.{code_digits, code_text}
use Rattle.vcd_text.proofs.Words.{IsWord, solid, both}

-- the number that digits to base 94 stand for, the lowest first
abbrev number : List ℕ → ℕ
number [] = 0
number (byte ∷ bytes) = byte - 33 + 94 * number bytes

number_by : (most n : ℕ) (b : Bool) → nat_lt n 94 ≡ b → n < suc most → (n / 94 < most → number (code_digits most (n / 94)) ≡ n / 94)
    → number (cond b ((33 + n) ∷ []) ((33 + n % 94) ∷ code_digits most (n / 94))) ≡ n
number_by most n true e l more = omega arith
number_by most n false e l more =
    let large : 94 ≤ n = grind (arith, nat_tests) in
    let rest = more (omega arith) in
    omega (arith, rest)

number_is : (most n : ℕ) → n < most → number (code_digits most n) ≡ n
number_is zero n l = absurd (omega arith)
number_is (suc most) n l = number_by most n (nat_lt n 94) refl l (number_is most (n / 94))

-- two numbers with one code are one
pub one_code : (m n : ℕ) → code_text m ≡ code_text n → m ≡ n
unfolding code_text
one_code m n e = sym (number_is (suc m) m (omega arith)) ∙ ap number e ∙ number_is (suc n) n (omega arith)

pub other_code : (m n : ℕ) → (m ≡ n → ⊥) → bytes_eq (code_text m) (code_text n) ≡ false
other_code m n other = by_test (bytes_eq (code_text m) (code_text n)) refl
  where
    by_test : (b : Bool) → bytes_eq (code_text m) (code_text n) ≡ b → b ≡ false
    by_test true e = absurd (other (one_code m n ((bytes_eq-Decides (code_text m) (code_text n)).0 e)))
    by_test false e = refl

pub same_code : (n : ℕ) → bytes_eq (code_text n) (code_text n) ≡ true
same_code n = (bytes_eq-Decides (code_text n) (code_text n)).1 refl

byte_is : (d : ℕ) → d < 94 → is_code_byte (33 + d) ≡ true
byte_is d l = grind (arith, nat_tests)

byte_solid : (d : ℕ) → d < 94 → solid (33 + d) ≡ true
byte_solid d l = grind (arith, nat_tests)

digits_by : (p : ℕ → Bool) → ((d : ℕ) → d < 94 → p (33 + d) ≡ true) → (most n : ℕ) (b : Bool) → nat_lt n 94 ≡ b → list_all p (code_digits most (n / 94)) ≡ true
    → list_all p (cond b ((33 + n) ∷ []) ((33 + n % 94) ∷ code_digits most (n / 94))) ≡ true
digits_by p each most n true e more = both (p (33 + n)) true (each n (grind (arith, nat_tests))) refl
digits_by p each most n false e more = both (p (33 + n % 94)) (list_all p (code_digits most (n / 94))) (each (n % 94) (omega arith)) more

all_digits : (p : ℕ → Bool) → ((d : ℕ) → d < 94 → p (33 + d) ≡ true) → (most n : ℕ) → list_all p (code_digits most n) ≡ true
all_digits p each zero n = refl
all_digits p each (suc most) n = digits_by p each most n (nat_lt n 94) refl (all_digits p each most (n / 94))

pub code_bytes : (n : ℕ) → list_all is_code_byte (code_text n) ≡ true
unfolding code_text
code_bytes n = all_digits is_code_byte byte_is (suc n) n

code_some : (n : ℕ) → has_bytes (code_text n) ≡ true
unfolding code_text
code_some n = by_test (nat_lt n 94)
  where
    by_test : (b : Bool) → has_bytes (cond b ((33 + n) ∷ []) ((33 + n % 94) ∷ code_digits n (n / 94))) ≡ true
    by_test true = refl
    by_test false = refl

code_solid : (n : ℕ) → list_all solid (code_text n) ≡ true
unfolding code_text
code_solid n = all_digits solid byte_solid (suc n) n

pub code_word : (n : ℕ) → IsWord (code_text n)
code_word n = record { some = code_some n; all = code_solid n }

-- so many digits are enough
enough : (m k n : ℕ) → n < m → n < k → code_digits m n ≡ code_digits k n
enough zero k n l r = absurd (omega arith)
enough (suc m) zero n l r = absurd (omega arith)
enough (suc m) (suc k) n l r = by_test (nat_lt n 94) refl (λ large. enough m k (n / 94) (omega arith) (omega arith))
  where
    by_test : (b : Bool) → nat_lt n 94 ≡ b → (94 ≤ n → code_digits m (n / 94) ≡ code_digits k (n / 94)) → cond b ((33 + n) ∷ []) ((33 + n % 94) ∷ code_digits m (n / 94)) ≡ cond b ((33 + n) ∷ []) ((33 + n % 94) ∷ code_digits k (n / 94))
    by_test true e more = refl
    by_test false e more = ap (λ (l : List ℕ). (33 + n % 94) ∷ l) (more (grind (arith, nat_tests)))

-- a code of one digit, and one of more
pub code_last : (n : ℕ) → n < 94 → code_text n ≡ (33 + n) ∷ []
unfolding code_text
code_last n l = let e : nat_lt n 94 ≡ true = grind (arith, nat_tests) in ap (λ b. cond b ((33 + n) ∷ []) ((33 + n % 94) ∷ code_digits n (n / 94))) e

pub code_more : (n : ℕ) → 94 ≤ n → code_text n ≡ (33 + n % 94) ∷ code_text (n / 94)
unfolding code_text
code_more n l =
    let e : nat_lt n 94 ≡ false = grind (arith, nat_tests) in
    ap (λ b. cond b ((33 + n) ∷ []) ((33 + n % 94) ∷ code_digits n (n / 94))) e
    ∙ ap (λ (l : List ℕ). (33 + n % 94) ∷ l) (enough n (suc (n / 94)) (n / 94) (omega arith) (omega arith))
