-- Whether a value fits a width.
use Rattle.std.proofs.Common.{◌≡◌, ℕ, zero, suc, ◌<◌, ◌/◌, Bool, true, false, nat_lt, nat_eq, refl, sym, ◌∙◌, arith}
use Rattle.std.proofs.lemmas.Bool.{lt-ltb, ltb-true}
use Rattle.std.proofs.Math.Dec.{eqb-suc-zero}
use Rattle.std.proofs.Math.Nat.{div-eq_of_lt, div-lt_iff_lt-mul}

pub fits_shift : (v k : ℕ) → 0 < k → nat_eq (v / k) 0 ≡ nat_lt v k
fits_shift v k some = by_quotient (v / k) refl
  where
    below : v / k ≡ 0 → v < k
    below e = omega (arith, (div-lt_iff_lt-mul {k = k} {x = v} {y = 1} some).0 (omega (arith, e)))

    not_below : (q : ℕ) → v / k ≡ suc q → (b : Bool) → nat_lt v k ≡ b → false ≡ b
    not_below q e true f = absurd (omega (arith, e, div-eq_of_lt (ltb-true v k f)))
    not_below q e false f = refl

    by_quotient : (q : ℕ) → v / k ≡ q → nat_eq q 0 ≡ nat_lt v k
    by_quotient zero e = sym (lt-ltb v k (below e))
    by_quotient (suc q) e = eqb-suc-zero q ∙ not_below q e (nat_lt v k) refl
