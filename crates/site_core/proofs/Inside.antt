-- The cycle and the slot of a position that there is.
use Rattle.std.proofs.Common.{ℕ, zero, suc, ◌<◌, ◌*◌, ◌/◌, ◌%◌, arith}
use Rattle.std.proofs.lemmas.Nat.{div_below}

-- where there is a position, a cycle has slots
pub some_slot : (c n p : ℕ) → p < c * n → 0 < n
some_slot c zero p h = absurd (grind (arith, h))
some_slot c (suc n) p h = omega arith

pub cycle_inside : (c n p : ℕ) → p < c * n → p / n < c
cycle_inside c n p h = div_below p n c (some_slot c n p h) h

pub slot_below : (c n p : ℕ) → p < c * n → p % n < n
slot_below c n p h = let some = some_slot c n p h in omega (arith, some)
