-- Widths as numbers of bits.
use Rattle.std.specs.Prelude.{ℕ, ℤ, pos, negsuc}

-- a number of bits, or a place among them; a negative one is none
abbrev pub bits : ℤ → ℕ
bits (pos n) = n
bits (negsuc n) = 0
