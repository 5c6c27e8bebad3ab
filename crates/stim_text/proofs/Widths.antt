-- Numbers that fit no width.
use Rattle.std.proofs.Common.{◌≡◌, ◌≤◌, ◌-◌, ◌^◌, ℕ, false, arith, nat_le, nat_lt}
use Rattle.std.proofs.lemmas.Bool.Decides.{nat_tests}
use Rattle.std.proofs.Math.Pow.{pow_mono}

-- what does not fit 128 bits fits no width
pub too_large : (width n : ℕ) → width ≤ 128 → nat_le n (2 ^ 128 - 1) ≡ false → nat_lt n (2 ^ width) ≡ false
too_large width n most large =
    let least : 2 ^ width ≤ 2 ^ 128 = pow_mono most in
    grind (arith, nat_tests)
