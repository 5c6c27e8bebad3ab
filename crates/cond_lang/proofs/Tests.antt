-- The tests of widths tell what the operators take.
use Rattle.std.proofs.Common.{◌≡◌, ℕ, Bool, true, false, IsTrue, ◌↔◌, refl, sym, arith}
use Rattle.bv_core.specs.Operators.{Fits1, Fits2, FitsMux}
use Rattle.bv_core.specs.declared.Op1.{Op1}
use Rattle.bv_core.specs.declared.Op1.TheVariants as op1
use Rattle.bv_core.specs.declared.Op2.{Op2}
use Rattle.bv_core.specs.declared.Op2.TheVariants as op2
use Rattle.cond_lang.specs.Judged.{fits_one, fits_two, fits_choice}

pub one_true : (o : Op1) (w : ℕ) → fits_one o w ≡ true → Fits1 o w
one_true op1.Not w e = tt
one_true op1.All w e = tt
one_true op1.Any w e = tt
one_true op1.Parity w e = tt
one_true (op1.Slice high low) w e = grind arith
one_true (op1.Zext to) w e = grind arith

pub true_one : (o : Op1) (w : ℕ) → Fits1 o w → fits_one o w ≡ true
true_one op1.Not w h = refl
true_one op1.All w h = refl
true_one op1.Any w h = refl
true_one op1.Parity w h = refl
true_one (op1.Slice high low) w h = grind arith
true_one (op1.Zext to) w h = grind arith

pub two_true : (o : Op2) (a b : ℕ) → fits_two o a b ≡ true → Fits2 o a b
two_true op2.Add a b e = grind arith
two_true op2.Sub a b e = grind arith
two_true op2.Mul a b e = grind arith
two_true op2.And a b e = grind arith
two_true op2.Or a b e = grind arith
two_true op2.Xor a b e = grind arith
two_true op2.Eq a b e = grind arith
two_true op2.Ne a b e = grind arith
two_true op2.Lt a b e = grind arith
two_true op2.Le a b e = grind arith
two_true op2.Shl a b e = tt
two_true op2.Shr a b e = tt
two_true op2.Cat a b e = grind arith

pub true_two : (o : Op2) (a b : ℕ) → Fits2 o a b → fits_two o a b ≡ true
true_two op2.Add a b h = grind arith
true_two op2.Sub a b h = grind arith
true_two op2.Mul a b h = grind arith
true_two op2.And a b h = grind arith
true_two op2.Or a b h = grind arith
true_two op2.Xor a b h = grind arith
true_two op2.Eq a b h = grind arith
true_two op2.Ne a b h = grind arith
true_two op2.Lt a b h = grind arith
true_two op2.Le a b h = grind arith
true_two op2.Shl a b h = refl
true_two op2.Shr a b h = refl
true_two op2.Cat a b h = grind arith

pub choice_true : (c a b : ℕ) → fits_choice c a b ≡ true → FitsMux c a b
choice_true c a b e = grind arith

pub true_choice : (c a b : ℕ) → FitsMux c a b → fits_choice c a b ≡ true
true_choice c a b h = grind arith

-- a test that says what another one says
same_test : {P : Type 0} (r b : Bool) → IsTrue r ↔ P → (P → b ≡ true) → (b ≡ true → P) → r ≡ b
same_test true b h p q = sym (p (h.0 refl))
same_test false true h p q = h.1 (q refl)
same_test false false h p q = refl

pub one_told : (r : Bool) (o : Op1) (w : ℕ) → IsTrue r ↔ Fits1 o w → r ≡ fits_one o w
one_told r o w h = same_test r (fits_one o w) h (true_one o w) (one_true o w)

pub two_told : (r : Bool) (o : Op2) (a b : ℕ) → IsTrue r ↔ Fits2 o a b → r ≡ fits_two o a b
two_told r o a b h = same_test r (fits_two o a b) h (true_two o a b) (two_true o a b)

pub choice_told : (r : Bool) (c a b : ℕ) → IsTrue r ↔ FitsMux c a b → r ≡ fits_choice c a b
choice_told r c a b h = same_test r (fits_choice c a b) h (true_choice c a b) (choice_true c a b)
