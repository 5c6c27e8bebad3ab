-- Names that have a number.
use Rattle.std.specs.Prelude.{ℕ, ℤ, List, [], ◌∷◌, ◌++◌, Option, Some, None, bytes_eq, if◌then◌else◌}

-- names, as their bytes, with their numbers, in order
abbrev pub Gens : Type 0
Gens = List (List ℕ × ℤ)

abbrev pub find : Gens → List ℕ → Option ℤ
find [] x = None
find (g ∷ gens) x = if bytes_eq g.0 x then Some g.1 else find gens x

-- all but the one of this name
abbrev pub without : List ℕ → Gens → Gens
without x [] = []
without x (g ∷ gens) = if bytes_eq g.0 x then without x gens else g ∷ without x gens

-- the name gets a number, and an outer one of that name is hidden
abbrev pub bound : List ℕ → ℤ → Gens → Gens
bound x n gens = without x gens ++ (x, n) ∷ []
