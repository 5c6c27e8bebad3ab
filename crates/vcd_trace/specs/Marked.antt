-- Marks of nodes, by number.
use Rattle.std.specs.Prelude.{◌≡◌, ℕ, ◌<◌, ◌||◌, Bool, false, List, length, get_or}

-- as many marks, and now also those of the nodes that pass this test
pub record Marks (old new : List Bool) (test : ℕ → Bool) : Type 0 where
  pub count : length new ≡ length old
  pub each : (n : ℕ) → n < length old → get_or new n false ≡ (get_or old n false || test n)
