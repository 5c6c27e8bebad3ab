-- What places tell.
use Rattle.std.proofs.Common.{ℕ, arith}
use Rattle.std.proofs.lemmas.Nat.{div-mul-add, mod-mul-add, div-add-mod'}
use Rattle.std.proofs.Math.Nat.{mod-lt}
use Rattle.places.specs.Places.{TellsBoth, IsOfBoth, IsItsLine}

pub tells : (file line : ℕ) → TellsBoth file line
tells file line h = (div-mul-add file 16777216 line h, mod-mul-add file 16777216 line h)

pub is_of : (at : ℕ) → IsOfBoth at
is_of at = (div-add-mod' at 16777216, mod-lt at (omega arith))

pub first : (line : ℕ) → IsItsLine line
first line = omega arith
