-- A literal that is printed is read as its value.
use Rattle.std.proofs.Common.{◌≡◌, ℕ, zero, suc, ◌+◌, ◌*◌, ◌/◌, ◌%◌, ◌^◌, ◌<◌, ◌≤◌, ◌&&◌, Bool, true, false, cond, List, [], ◌∷◌, ◌++◌, length, take, drop, nat_lt, Some, None, option_and_then, decimal, refl, sym, ap, ap₂, ◌∙◌, arith, take_at, drop_at, append_assoc}
use Rattle.std.specs.List.{list_all, prefix_len}
use Rattle.std.proofs.lemmas.Bool.{and_parts, and_from, le-leb, lt-ltb}
use Rattle.std.proofs.lemmas.Bool.Decides.{nat_tests}
use Rattle.std.proofs.lemmas.Fmt.{decimal_by_steps}
use Rattle.std.proofs.lemmas.List.Folds.{list_all-append}
use Rattle.std.proofs.lemmas.List.Sums.{fold-append}
use Rattle.std.proofs.lemmas.Nat.{pow-add}
use Rattle.std.proofs.lemmas.Slice.Eq.{bytes_eq-Decides}
use Rattle.std.proofs.Math.Pow.{pow_mono}
use Rattle.text_core.specs.Digits.{digit_of, is_digit_of, number_of}
use Rattle.bv_core.specs.Value.{Bits, IsBits}
use Rattle.bv_core.specs.Text.{hex_digit, hex_digits, shown}
use Rattle.symtab_json.specs.Literals.{is_bits, width_len, literal_of_width, literal_around, literal_in, if_shown, told_literal}

digit_is : (d : ℕ) → d < 10 → digit_of (48 + d) ≡ d
digit_is d l = grind (arith, nat_tests)

digit_tens : (d : ℕ) → d < 10 → is_digit_of 10 (48 + d) ≡ true
digit_tens d l = rw (digit_is d l) (grind (arith, nat_tests))

hex_is_at : (b : Bool) (d : ℕ) → d < 16 → nat_lt d 10 ≡ b → digit_of (cond b (48 + d) (87 + d)) ≡ d
hex_is_at true d l e = digit_is d (grind (arith, nat_tests))
hex_is_at false d l e = grind (arith, nat_tests)

hex_is : (d : ℕ) → d < 16 → digit_of (hex_digit d) ≡ d
hex_is d l = hex_is_at (nat_lt d 10) d l refl

-- one digit more on the right
more_digits : (base : ℕ) (digits : List ℕ) (byte : ℕ) → number_of base (digits ++ byte ∷ []) ≡ number_of base digits * base + digit_of byte
more_digits base digits byte = fold-append (λ number byte. number * base + digit_of byte) 0 digits (byte ∷ [])

decimal_is : (n : ℕ) → n < 2 ^ 64 → number_of 10 (decimal n) ≡ n
decimal_is = decimal_by_steps (λ n digits. number_of 10 digits ≡ n)
    (λ n l. let d = digit_is n l in omega (arith, d))
    (λ n digits l h.
    let d = digit_is (n % 10) (let below : n % 10 < 10 = omega arith in below) in
    more_digits 10 digits (48 + n % 10) ∙ (let e : number_of 10 digits * 10 + digit_of (48 + n % 10) ≡ n = omega (arith, h, d) in e))

pub decimal_all : (n : ℕ) → n < 2 ^ 64 → list_all (is_digit_of 10) (decimal n) ≡ true
decimal_all = decimal_by_steps (λ n digits. list_all (is_digit_of 10) digits ≡ true)
    (λ n l. and_from _ _ (digit_tens n l) refl)
    (λ n digits l h. list_all-append (is_digit_of 10) digits ((48 + n % 10) ∷ [])
    ∙ and_from (list_all (is_digit_of 10) digits) (list_all (is_digit_of 10) ((48 + n % 10) ∷ [])) h (and_from _ _ (digit_tens (n % 10) (omega arith)) refl))

front_exact : (p : ℕ → Bool) (front : List ℕ) (byte : ℕ) (more : List ℕ) → list_all p front ≡ true → p byte ≡ false → prefix_len p (front ++ byte ∷ more) ≡ length front
front_exact p [] byte more h e = rw e refl
front_exact p (x ∷ xs) byte more h e =
    let b = and_parts (p x) (list_all p xs) h in
    rw (b.0) (omega (arith, front_exact p xs byte more b.1 e))

-- hexadecimal digits of a number that they have room for
hex_back : (count n : ℕ) → n < 2 ^ (4 * count) → number_of 16 (hex_digits count n) ≡ n
unfolding hex_digits
hex_back zero n h = let none : n ≡ 0 = omega arith in sym none
hex_back (suc count) n h =
    let room : 2 ^ (4 * suc count) ≡ 16 * 2 ^ (4 * count) = ap (λ k. 2 ^ k) (let e : 4 * suc count ≡ 4 + 4 * count = omega arith in e) ∙ pow-add 2 4 (4 * count) in
    let less : n / 16 < 2 ^ (4 * count) = omega (arith, room) in
    let digit : digit_of (hex_digit (n % 16)) ≡ n % 16 = hex_is (n % 16) (let below : n % 16 < 16 = omega arith in below) in
    more_digits 16 (hex_digits count (n / 16)) (hex_digit (n % 16))
    ∙ (let e : number_of 16 (hex_digits count (n / 16)) * 16 + digit_of (hex_digit (n % 16)) ≡ n = omega (arith, hex_back count (n / 16) less, digit) in e)

bits_yes : (b : Bits) → IsBits b → is_bits b ≡ true
bits_yes b h = and_all _ _ _ (le-leb 1 b.width h.some) (le-leb b.width 128 h.most) (lt-ltb b.value (2 ^ b.width) h.fits)
  where
    and_all : (x y z : Bool) → x ≡ true → y ≡ true → z ≡ true → (x && y && z) ≡ true
    and_all true true true p q r = refl
    and_all true true false p q r = r
    and_all true false z p q r = absurd (cc)
    and_all false y z p q r = absurd (cc)

value_back : (b : Bits) → IsBits b → literal_in (shown b) ≡ Some b
value_back b h =
    let digits = decimal b.width in
    let hex = hex_digits ((b.width + 3) / 4) b.value in
    let small : b.width < 2 ^ 64 = omega (arith, h.most) in
    let text = digits ++ 39 ∷ 104 ∷ hex in
    let split : shown b ≡ text = append_assoc digits (39 ∷ 104 ∷ []) hex in
    let count : width_len text ≡ length digits = front_exact (is_digit_of 10) digits 39 (104 ∷ hex) (decimal_all b.width small) refl in
    let room : b.value < 2 ^ (4 * ((b.width + 3) / 4)) =
    (let least : 2 ^ b.width ≤ 2 ^ (4 * ((b.width + 3) / 4)) = pow_mono (let e : b.width ≤ 4 * ((b.width + 3) / 4) = omega arith in e) in omega (arith, least, h.fits)) in
    let width : number_of 10 digits ≡ b.width = decimal_is b.width small in
    let value : number_of 16 hex ≡ b.value = hex_back ((b.width + 3) / 4) b.value room in
    let front : take (width_len text) text ≡ digits = ap (λ n. take n text) count ∙ take_at digits (39 ∷ 104 ∷ hex) (length digits) refl in
    let tail : drop (width_len text) text ≡ 39 ∷ 104 ∷ hex = ap (λ n. drop n text) count ∙ drop_at digits (39 ∷ 104 ∷ hex) (length digits) refl in
    let whole : literal_of_width b.width hex ≡ Some b = ap (λ v. cond (is_bits (record { width = b.width; value = v })) (Some (record { width = b.width; value = v })) None) value
    ∙ ap (λ t. cond t (Some b) None) (bits_yes b h) in
    ap literal_in split ∙ ap₂ literal_around front tail ∙ ap (λ w. literal_of_width w hex) width ∙ whole

pub literal_back : (b : Bits) → IsBits b → told_literal (shown b) ≡ Some b
literal_back b h = ap (option_and_then (if_shown (shown b))) (value_back b h) ∙ ap (λ t. cond t (Some b) None) ((bytes_eq-Decides (shown b) (shown b)).1 refl)
