-- The bits of a part.
use Rattle.std.proofs.Common.{◌≡◌, ℕ, zero, suc, ◌<◌, ◌≤◌, ℤ, pos, negsuc, int_le, Bool, true, false, ◌&&◌, if◌then◌else◌, Some, refl, sym, ap, ◌∙◌, arith}
use Rattle.std.specs.Prelude.{nat_le}
use Rattle.std.proofs.lemmas.Bool.{leb-true}
use Rattle.exec_core.specs.Block.{covers}
use Rattle.design_core.specs.Widths.{bits}
use Rattle.bit_sets.specs.BitSets.{no_bits}
use Rattle.check_core.specs.Widths.{is_slice}
use Rattle.check_core.specs.Paths.{part_in}

both : (a b : Bool) → (a && b) ≡ true → (a ≡ true) × (b ≡ true)
both true b e = (refl, e)
both false b e = absurd cc

pub slice_order : (h l : ℤ) → is_slice h l ≡ true → bits l ≤ bits h
slice_order (pos h) (pos l) e =
    let rest = (both (int_le (pos 0) (pos l)) (int_le (pos l) (pos h) && int_le (pos h) (pos 127)) e).1 in
    leb-true l h (both (int_le (pos l) (pos h)) (int_le (pos h) (pos 127)) rest).0
slice_order (negsuc h) (pos l) e =
    let rest = (both (int_le (pos 0) (pos l)) (int_le (pos l) (negsuc h) && int_le (negsuc h) (pos 127)) e).1 in absurd cc
slice_order h (negsuc l) e = absurd cc

pub slice_within : (h l : ℤ) → is_slice h l ≡ true → bits h < 128
slice_within (pos h) (pos l) e =
    let rest = (both (int_le (pos 0) (pos l)) (int_le (pos l) (pos h) && int_le (pos h) (pos 127)) e).1 in
    let most = leb-true h 127 (both (int_le (pos l) (pos h)) (int_le (pos h) (pos 127)) rest).1 in
    omega (arith, most)
slice_within (negsuc h) (pos l) e =
    let rest = (both (int_le (pos 0) (pos l)) (int_le (pos l) (negsuc h) && int_le (negsuc h) (pos 127)) e).1 in absurd cc
slice_within h (negsuc l) e = absurd cc

none_covered : (i : ℕ) → covers (Some (record { high = 0; low = 1 })) i ≡ false
none_covered zero = refl
none_covered (suc i) = ap (λ b. nat_le 1 (suc i) && b) (above i) ∙ off (nat_le 1 (suc i))
  where
    above : (i : ℕ) → nat_le (suc i) 0 ≡ false
    above i = grind arith

    off : (b : Bool) → (b && false) ≡ false
    off true = refl
    off false = refl

pub no_slice : (h l : ℤ) (set : ℕ → Bool) → is_slice h l ≡ false → set ≡ no_bits → set ≡ covers (part_in (Some (h, l)))
no_slice h l set off is =
    is ∙ (λ j i. sym (none_covered i) j)
    ∙ ap (λ b. covers (if b then Some (record { high = bits h; low = bits l }) else Some (record { high = 0; low = 1 }))) (sym off)

pub a_slice : (h l : ℤ) (set : ℕ → Bool) → is_slice h l ≡ true → set ≡ covers (Some (record { high = bits h; low = bits l })) → set ≡ covers (part_in (Some (h, l)))
a_slice h l set on is = is ∙ ap (λ b. covers (if b then Some (record { high = bits h; low = bits l }) else Some (record { high = 0; low = 1 }))) (sym on)

pub ruleset part_steps = (slice_order, slice_within, no_slice, a_slice)
