-- The value of digits that are bits, and that others have none.
use Rattle.std.proofs.Common.{◌≡◌, ℕ, zero, suc, ◌+◌, ◌-◌, ◌*◌, ◌<◌, ◌≤◌, ◌^◌, ◌&&◌, Bool, true, false, cond, List, [], ◌∷◌, ◌++◌, length, nat_le, refl, ap, ap₂, ◌∙◌, arith}
use Rattle.std.specs.Prelude.{fold, replicate}
use Rattle.std.specs.List.{list_all}
use Rattle.std.proofs.Math.Nat.{pow-le-pow_right, pow-succ', mul-le-mul_right}
use Rattle.std.proofs.lemmas.List.Folds.{list_all-append}
use Rattle.std.proofs.lemmas.List.Sums.{fold-append}
use Rattle.std.proofs.lemmas.Bool.Decides.{nat_tests}
use Rattle.text_core.specs.Digits.{digit_of, number_of}
use Rattle.bv_core.specs.declared.reference.Sample.{Sample}
use Rattle.bv_core.specs.declared.reference.Sample.TheVariants.{Known, Unknown}
use Rattle.vcd_samples.specs.Samples.{is_bit, filler, extended, value_of}

abbrev step : ℕ → ℕ → ℕ
step number byte = number * 2 + digit_of byte

-- ---- extended digits

bits_before : (count : ℕ) (digits : List ℕ) → list_all is_bit digits ≡ true → list_all is_bit (replicate count 48 ++ digits) ≡ true
bits_before zero digits all = all
bits_before (suc count) digits all = bits_before count digits all

filled : (digits : List ℕ) → list_all is_bit digits ≡ true → filler digits ≡ 48
filled [] all = refl
filled (digit ∷ digits) all = by (is_bit digit) all
  where
    by : (b : Bool) → (b && list_all is_bit digits) ≡ true → cond b 48 digit ≡ 48
    by true e = refl
    by false e = cc

no_bits_before : (xs digits : List ℕ) → list_all is_bit digits ≡ false → list_all is_bit (xs ++ digits) ≡ false
no_bits_before xs digits none = list_all-append is_bit xs digits ∙ ap (λ (b : Bool). list_all is_bit xs && b) none ∙ last (list_all is_bit xs)
  where
    last : (b : Bool) → (b && false) ≡ false
    last true = refl
    last false = refl

-- zeros in front add nothing
zeros : (count : ℕ) → fold step 0 (replicate count 48) ≡ 0
zeros zero = refl
zeros (suc count) = zeros count

number-extended : (count : ℕ) (digits : List ℕ) → number_of 2 (replicate count 48 ++ digits) ≡ number_of 2 digits
number-extended count digits = fold-append step 0 (replicate count 48) digits ∙ ap (λ (n : ℕ). fold step n digits) (zeros count)

by_bits : (small bits : Bool) (known : Sample) → bits ≡ false → cond (small && bits) known Unknown ≡ Unknown
by_bits true bits known e = ap (λ (b : Bool). cond b known Unknown) e
by_bits false bits known e = refl

pub unknown : (size : ℕ) (digits : List ℕ) → list_all is_bit digits ≡ false → value_of size digits ≡ Unknown
unknown size digits none = by_bits (nat_le size 128) (list_all is_bit (extended size digits)) _ (no_bits_before (replicate (size - length digits) (filler digits)) digits none)

pub known : (size : ℕ) (digits : List ℕ) → size ≤ 128 → list_all is_bit digits ≡ true → value_of size digits ≡ Known (record { width = size; value = number_of 2 digits })
known size digits most all =
    let whole : extended size digits ≡ replicate (size - length digits) 48 ++ digits = ap (λ (f : ℕ). replicate (size - length digits) f ++ digits) (filled digits all) in
    let small : nat_le size 128 ≡ true = grind (arith, nat_tests) in
    let bits : list_all is_bit (extended size digits) ≡ true = ap (list_all is_bit) whole ∙ bits_before (size - length digits) digits all in
    let number : number_of 2 (extended size digits) ≡ number_of 2 digits = ap (number_of 2) whole ∙ number-extended (size - length digits) digits in
    ap₂ (λ (a b : Bool). cond (a && b) (Known (record { width = size; value = number_of 2 (extended size digits) })) Unknown) small bits
    ∙ ap (λ (n : ℕ). Known (record { width = size; value = n })) number

-- ---- how large the number is

digit_bound : (digit : ℕ) → is_bit digit ≡ true → digit_of digit ≤ 1
digit_bound digit bit = grind (arith, nat_tests)

left : (b c : Bool) → (b && c) ≡ true → b ≡ true
left true c e = refl
left false c e = e

right : (b c : Bool) → (b && c) ≡ true → c ≡ true
right true c e = e
right false c e = cc

bits_below : (number : ℕ) (digits : List ℕ) → list_all is_bit digits ≡ true → fold step number digits + 1 ≤ (number + 1) * 2 ^ length digits
bits_below number [] all = omega arith
bits_below number (digit ∷ digits) all =
    let bit : digit_of digit ≤ 1 = digit_bound digit (left (is_bit digit) (list_all is_bit digits) all) in
    let more = bits_below (step number digit) digits (right (is_bit digit) (list_all is_bit digits) all) in
    let p : ℕ = 2 ^ length digits in
    let grown : (step number digit + 1) * p ≤ ((number + 1) * 2) * p = mul-le-mul_right p (omega (arith, bit)) in
    let twice : (number + 1) * 2 ^ length (digit ∷ digits) ≡ ((number + 1) * 2) * p = doubled (number + 1) (length digits) in
    omega (arith, more, grown, twice)
  where
    doubled : (n k : ℕ) → n * 2 ^ suc k ≡ (n * 2) * 2 ^ k
    doubled n k = grind (arith, pow-succ')

pub below : (size : ℕ) (digits : List ℕ) → list_all is_bit digits ≡ true → length digits ≤ size → number_of 2 digits < 2 ^ size
below size digits all fits =
    let bound = bits_below 0 digits all in
    let power : 2 ^ length digits ≤ 2 ^ size = pow-le-pow_right (omega arith) fits in
    omega (arith, bound, power)

pub small : (size : ℕ) (digits : List ℕ) → list_all is_bit digits ≡ true → length digits ≤ size → size ≤ 128 → nat_le (number_of 2 digits) (2 ^ 128 - 1) ≡ true
small size digits all fits most =
    let bound = below 128 digits all (omega arith) in
    grind (arith, nat_tests, bound)
