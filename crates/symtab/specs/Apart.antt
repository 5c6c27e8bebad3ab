-- Texts that differ.
use Rattle.std.specs.Prelude.{ℕ, List, bytes_eq}
use Rattle.std.specs.List.{IsDistinct}

-- no two texts are the same
abbrev pub AreApart : List (List ℕ) → Type 0
AreApart texts = IsDistinct bytes_eq texts
