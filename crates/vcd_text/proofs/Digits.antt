-- Digits of numbers and of values.
use Rattle.std.proofs.Common.{◌≡◌, ℕ, zero, suc, ◌+◌, ◌-◌, ◌*◌, ◌/◌, ◌%◌, ◌^◌, ◌<◌, ◌≤◌, Bool, true, List, [], ◌∷◌, ◌++◌, length, refl, sym, ap, ◌∙◌, arith, length-append, append-nil}
use Rattle.std.proofs.lemmas.Nat.{shr-shr}
use Rattle.std.proofs.Math.Nat.{sub_self}
use Rattle.std.specs.List.{list_all}
use Rattle.std.specs.Fmt.{decimal}
use Rattle.std.proofs.lemmas.Fmt.{decimal_by_steps, decimal_nonempty}
use Rattle.std.proofs.lemmas.List.Folds.{list_all-append}
use Rattle.std.proofs.lemmas.List.Sums.{fold-append}
use Rattle.std.proofs.lemmas.Bool.Decides.{nat_tests}
use Rattle.text_core.specs.Digits.{digit_of, is_digit_of, number_of}
use Rattle.vcd_read.specs.Words.{has_bytes}
use Rattle.vcd_read.specs.Changes.{is_value}
use Rattle.vcd_text.specs.Dump.{binary_digits}
use Rattle.vcd_text.proofs.Words.{IsWord, solid, both}

digit_is : (d : ℕ) → d < 10 → digit_of (48 + d) ≡ d
digit_is d l = grind (arith, nat_tests)

digit_tens : (d : ℕ) → d < 10 → is_digit_of 10 (48 + d) ≡ true
digit_tens d l = rw (digit_is d l) (grind (arith, nat_tests))

digit_solid : (d : ℕ) → d < 10 → solid (48 + d) ≡ true
digit_solid d l = grind (arith, nat_tests)

-- one digit more on the right
more_digits : (base : ℕ) (digits : List ℕ) (byte : ℕ) → number_of base (digits ++ byte ∷ []) ≡ number_of base digits * base + digit_of byte
more_digits base digits byte = fold-append (λ number byte. number * base + digit_of byte) 0 digits (byte ∷ [])

-- ---- decimal

pub decimal_is : (n : ℕ) → n < 2 ^ 64 → number_of 10 (decimal n) ≡ n
decimal_is = decimal_by_steps (λ n digits. number_of 10 digits ≡ n)
    (λ n l. let d = digit_is n l in omega (arith, d))
    (λ n digits l h.
    let d = digit_is (n % 10) (let below : n % 10 < 10 = omega arith in below) in
    more_digits 10 digits (48 + n % 10) ∙ (let e : number_of 10 digits * 10 + digit_of (48 + n % 10) ≡ n = omega (arith, h, d) in e))

pub decimal_all : (p : ℕ → Bool) → ((d : ℕ) → d < 10 → p (48 + d) ≡ true) → (n : ℕ) → n < 2 ^ 64 → list_all p (decimal n) ≡ true
decimal_all p each = decimal_by_steps (λ n digits. list_all p digits ≡ true)
    (λ n l. both (p (48 + n)) true (each n l) refl)
    (λ n digits l h. list_all-append p digits ((48 + n % 10) ∷ []) ∙ both (list_all p digits) (list_all p ((48 + n % 10) ∷ [])) h (both (p (48 + n % 10)) true (each (n % 10) (omega arith)) refl))

some_bytes : (bytes : List ℕ) → 0 < length bytes → has_bytes bytes ≡ true
some_bytes [] l = absurd (omega arith)
some_bytes (byte ∷ bytes) l = refl

pub decimal_word : (n : ℕ) → n < 2 ^ 64 → IsWord (decimal n)
decimal_word n l = record { some = some_bytes (decimal n) (decimal_nonempty n l); all = decimal_all solid digit_solid n l }

pub decimal_tens : (n : ℕ) → n < 2 ^ 64 → list_all (is_digit_of 10) (decimal n) ≡ true
decimal_tens n l = decimal_all (is_digit_of 10) digit_tens n l

pub decimal_some : (n : ℕ) → n < 2 ^ 64 → has_bytes (decimal n) ≡ true
decimal_some n l = some_bytes (decimal n) (decimal_nonempty n l)

-- ---- binary

pub binary_length : (count value : ℕ) → length (binary_digits count value) ≡ count
unfolding binary_digits
binary_length zero value = refl
binary_length (suc count) value = length-append (binary_digits count (value / 2)) ((48 + value % 2) ∷ []) ∙ (let e : length (binary_digits count (value / 2)) + 1 ≡ suc count = omega (arith, binary_length count (value / 2)) in e)

pub binary_all : (p : ℕ → Bool) → ((d : ℕ) → d < 2 → p (48 + d) ≡ true) → (count value : ℕ) → list_all p (binary_digits count value) ≡ true
unfolding binary_digits
binary_all p each zero value = refl
binary_all p each (suc count) value =
    list_all-append p (binary_digits count (value / 2)) ((48 + value % 2) ∷ [])
    ∙ both (list_all p (binary_digits count (value / 2))) (list_all p ((48 + value % 2) ∷ [])) (binary_all p each count (value / 2)) (both (p (48 + value % 2)) true (each (value % 2) (omega arith)) refl)

bit_value : (d : ℕ) → d < 2 → is_value (48 + d) ≡ true
bit_value d l = grind (arith, nat_tests)

pub binary_values : (count value : ℕ) → list_all is_value (binary_digits count value) ≡ true
binary_values = binary_all is_value bit_value

pub binary_solid : (count value : ℕ) → list_all solid (binary_digits count value) ≡ true
binary_solid = binary_all solid (λ d l. digit_solid d (omega arith))

halved : (count value : ℕ) → value < 2 ^ suc count → value / 2 < 2 ^ count
halved count value l = grind (arith)

-- the digits of a value stand for it
pub binary_is : (count value : ℕ) → value < 2 ^ count → number_of 2 (binary_digits count value) ≡ value
unfolding binary_digits
binary_is zero value l = let e : value ≡ 0 = omega arith in sym e
binary_is (suc count) value l =
    let d = digit_is (value % 2) (let below : value % 2 < 10 = omega arith in below) in
    let h = binary_is count (value / 2) (halved count value l) in
    more_digits 2 (binary_digits count (value / 2)) (48 + value % 2) ∙ (let e : number_of 2 (binary_digits count (value / 2)) * 2 + digit_of (48 + value % 2) ≡ value = omega (arith, h, d) in e)

-- ---- one more binary digit on the right

pub no_binary : (text : List ℕ) (count n : ℕ) → text ≡ text ++ binary_digits (count - count) n
unfolding binary_digits
no_binary text count n = rw (sub_self count) (sym (append-nil text))

last_binary : (k n place next : ℕ) → next ≡ place + 1 → binary_digits (suc k) (n / 2 ^ place) ≡ binary_digits k (n / 2 ^ next) ++ (48 + n / 2 ^ place % 2) ∷ []
unfolding binary_digits
last_binary k n place next e = ap (λ m. binary_digits k m ++ (48 + n / 2 ^ place % 2) ∷ []) (shr-shr n place 1 ∙ ap (λ k. n / 2 ^ k) (sym e))

-- the digit at one place less
pub more_binary : (count n place next : ℕ) → 0 < next → place ≡ next - 1 → next ≤ count → binary_digits (count - place) (n / 2 ^ place) ≡ binary_digits (count - next) (n / 2 ^ next) ++ (48 + n / 2 ^ place % 2) ∷ []
more_binary count n place next some e within =
    let more : count - place ≡ suc (count - next) = omega arith in
    let after : next ≡ place + 1 = omega arith in
    ap (λ k. binary_digits k (n / 2 ^ place)) more ∙ last_binary (count - next) n place next after
