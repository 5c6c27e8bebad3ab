-- Where the entries of a list stand.
use Rattle.std.specs.Prelude.{ℕ, ◌+◌, ◌==◌, List, [], ◌∷◌, if◌then◌else◌}

-- the places at which a number stands in a list, in order, counted from this one
abbrev pub places_from : ℕ → ℕ → List ℕ → List ℕ
places_from first number [] = []
places_from first number (x ∷ xs) =
    if x == number then first ∷ places_from (first + 1) number xs else places_from (first + 1) number xs

-- the places at which a number stands in a list, in order
abbrev pub places : ℕ → List ℕ → List ℕ
places number xs = places_from 0 number xs
