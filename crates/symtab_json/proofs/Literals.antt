-- Numbers that are no value.
use Rattle.std.proofs.Common.{◌≡◌, ◌≤◌, ◌-◌, ◌^◌, ◌&&◌, ℕ, Bool, true, false, arith, nat_le, nat_lt, refl, leb-true}
use Rattle.std.proofs.lemmas.Bool.Decides.{nat_tests}
use Rattle.std.proofs.Math.Pow.{pow_mono}
use Rattle.symtab_json.specs.Literals.{is_bits}

third_fails : (a b c : Bool) → c ≡ false → (a && b && c) ≡ false
third_fails true true c e = e
third_fails true false c e = refl
third_fails false b c e = refl

second_fails : (a b c : Bool) → b ≡ false → (a && b && c) ≡ false
second_fails true false c e = refl
second_fails true true c e = cc
second_fails false b c e = refl

-- a width above 128
pub too_wide : (w v : ℕ) → nat_le w 128 ≡ false → is_bits (record { width = w; value = v }) ≡ false
too_wide w v wide = second_fails (nat_le 1 w) (nat_le w 128) (nat_lt v (2 ^ w)) wide

at_width : (b : Bool) (w v : ℕ) → nat_le w 128 ≡ b → nat_le v (2 ^ 128 - 1) ≡ false → is_bits (record { width = w; value = v }) ≡ false
at_width false w v wide large = too_wide w v wide
at_width true w v most large =
    let least : 2 ^ w ≤ 2 ^ 128 = pow_mono (leb-true w 128 most) in
    third_fails (nat_le 1 w) (nat_le w 128) (nat_lt v (2 ^ w)) (grind (arith, nat_tests))

-- a number that does not fit 128 bits
pub too_large : (w v : ℕ) → nat_le v (2 ^ 128 - 1) ≡ false → is_bits (record { width = w; value = v }) ≡ false
too_large w v large = at_width (nat_le w 128) w v refl large
