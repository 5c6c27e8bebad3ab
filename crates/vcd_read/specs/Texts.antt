-- How texts are kept: one behind the other in one list of letters, by the places where they end.
use Rattle.std.specs.Prelude.{◌≡◌, ◌≤◌, ℕ, List, [], ◌∷◌, slice_range}

-- the texts that end at these places, of which the first begins at this one
abbrev pub texts_of : List ℕ → ℕ → List ℕ → List (List ℕ)
texts_of letters start [] = []
texts_of letters start (end ∷ ends) = slice_range letters start end ∷ texts_of letters end ends

-- places that do not fall, up to the end of so many letters
abbrev pub AreEnds : ℕ → ℕ → List ℕ → Type 0
AreEnds total start [] = start ≡ total
AreEnds total start (end ∷ ends) = (start ≤ end) × AreEnds total end ends
