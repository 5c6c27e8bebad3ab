-- What is printed for an operator means the operator.
use Rattle.std.proofs.Common.{◌≡◌, ℕ, ◌+◌, ◌-◌, ◌*◌, ◌^◌, ◌<◌, ◌≤◌, Bool, true, false, List, nat_lt, if◌then◌else◌, refl, sym, ◌∙◌, subst, arith}
use Rattle.std.proofs.lemmas.Bool.Decides.{nat_tests}
use Rattle.bv_core.specs.Value.{Bits}
use Rattle.bv_core.specs.declared.operators.Op1.{Op1}
use Rattle.bv_core.specs.declared.operators.Op1.TheVariants.{Not, All, Any, Parity, Slice, Zext}
use Rattle.bv_core.specs.declared.operators.Op2.{Op2}
use Rattle.bv_core.specs.declared.operators.Op2.TheVariants.{Add, Sub, Mul, And, Or, Xor, Eq, Ne, Lt, Le, Shl, Shr, Cat}
use Rattle.bv_core.specs.Operators.{Fits1, Fits2, apply1_of, apply2_of, width1_of, width2_of}
use Rattle.verilog_out.specs.Syntax.{Identifier, Copy, Pad}
use Rattle.verilog_out.specs.Printed.{one_printed, two_printed}
use Rattle.verilog_out.specs.Meaning.{name_of, meaning, ExpressionFits}

module _ (W : List ℕ → Bits) where
  widened : (v to : ℕ) (a : Identifier) (b : Bool) → nat_lt v to ≡ b → (W (name_of a)).width ≡ v → v ≤ to → meaning W (if b then Pad (to - v) a else Copy a) ≡ record { width = to; value = (W (name_of a)).value }
  widened v to a true t e l =
      let p : (to - v) + (W (name_of a)).width ≡ to = omega arith in
      let q : 0 * 2 ^ (W (name_of a)).width + (W (name_of a)).value ≡ (W (name_of a)).value = omega arith in
      λ i. record { width = p i; value = q i }
  widened v to a false t e l =
      let p : (W (name_of a)).width ≡ to = grind (arith, nat_tests) in
      λ i. record { width = p i; value = (W (name_of a)).value }

  widened_fits : (v to : ℕ) (a : Identifier) (b : Bool) → nat_lt v to ≡ b → (W (name_of a)).width ≡ v → v ≤ to → ExpressionFits W to (if b then Pad (to - v) a else Copy a)
  widened_fits v to a true t e l = omega arith
  widened_fits v to a false t e l = grind (arith, nat_tests)

  pub one_value : (op : Op1) (v : ℕ) (a : Identifier) → (W (name_of a)).width ≡ v → Fits1 op v → meaning W (one_printed op v a) ≡ apply1_of op (W (name_of a))
  one_value Not v a e f = refl
  one_value All v a e f = refl
  one_value Any v a e f = refl
  one_value Parity v a e f = refl
  one_value (Slice high low) v a e f = refl
  one_value (Zext to) v a e f = widened v to a (nat_lt v to) refl e f.0

  pub one_fits : (op : Op1) (v : ℕ) (a : Identifier) → (W (name_of a)).width ≡ v → Fits1 op v → ExpressionFits W (width1_of op v) (one_printed op v a)
  one_fits Not v a e f = e
  one_fits All v a e f = refl
  one_fits Any v a e f = refl
  one_fits Parity v a e f = refl
  one_fits (Slice high low) v a e f = (f.0, subst (λ w. high < w) (sym e) f.1, refl)
  one_fits (Zext to) v a e f = widened_fits v to a (nat_lt v to) refl e f.0

  pub two_value : (op : Op2) (a b : Identifier) → meaning W (two_printed op a b) ≡ apply2_of op (W (name_of a)) (W (name_of b))
  two_value Add a b = refl
  two_value Sub a b = refl
  two_value Mul a b = refl
  two_value And a b = refl
  two_value Or a b = refl
  two_value Xor a b = refl
  two_value Eq a b = refl
  two_value Ne a b = refl
  two_value Lt a b = refl
  two_value Le a b = refl
  two_value Shl a b = refl
  two_value Shr a b = refl
  two_value Cat a b = refl

  pub two_fits : (op : Op2) (v w : ℕ) (a b : Identifier) → (W (name_of a)).width ≡ v → (W (name_of b)).width ≡ w → Fits2 op v w → ExpressionFits W (width2_of op v w) (two_printed op a b)
  two_fits Add v w a b p q f = (p, q ∙ sym f)
  two_fits Sub v w a b p q f = (p, q ∙ sym f)
  two_fits Mul v w a b p q f = (p, q ∙ sym f)
  two_fits And v w a b p q f = (p, q ∙ sym f)
  two_fits Or v w a b p q f = (p, q ∙ sym f)
  two_fits Xor v w a b p q f = (p, q ∙ sym f)
  two_fits Eq v w a b p q f = (p ∙ f ∙ sym q, refl)
  two_fits Ne v w a b p q f = (p ∙ f ∙ sym q, refl)
  two_fits Lt v w a b p q f = (p ∙ f ∙ sym q, refl)
  two_fits Le v w a b p q f = (p ∙ f ∙ sym q, refl)
  two_fits Shl v w a b p q f = p
  two_fits Shr v w a b p q f = p
  two_fits Cat v w a b p q f = omega arith
