-- Names with their lines, as the code keeps them.
use Rattle.std.specs.Prelude.{ℕ, List, map}
use Rattle.std.specs.Borrow.{Bor}
use Rattle.names.specs.Known.{Name}

abbrev pub thing_at : ℕ × Bor (List ℕ) → ℕ × Name
thing_at p = (p.0, p.1.now)

abbrev pub things_at : List (ℕ × Bor (List ℕ)) → List (ℕ × Name)
things_at all = map thing_at all
