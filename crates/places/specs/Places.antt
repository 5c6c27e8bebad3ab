-- Places: a file and a line in it, as one number.
use Rattle.std.specs.Prelude.{◌≡◌, ◌<◌, ℕ, ◌+◌, ◌*◌, ◌/◌, ◌%◌}

-- the place of a line in a file. It is a sum of products of numbers that are written down, so that it is computed
abbrev pub place : ℕ → ℕ → ℕ
place file line = file * 16777216 + line

-- the file of a place, and its line there
abbrev pub file_of : ℕ → ℕ
file_of at = at / 16777216

abbrev pub line_in : ℕ → ℕ
line_in at = at % 16777216

-- a place tells its file and its line
abbrev pub TellsBoth : ℕ → ℕ → Type 0
TellsBoth file line = line < 16777216 → (file_of (place file line) ≡ file) × (line_in (place file line) ≡ line)

-- a number is the place of its file and its line
abbrev pub IsOfBoth : ℕ → Type 0
IsOfBoth at = (place (file_of at) (line_in at) ≡ at) × (line_in at < 16777216)

-- a place in file 0 is its line
abbrev pub IsItsLine : ℕ → Type 0
IsItsLine line = place 0 line ≡ line
