-- How many links a door has left, where it tells it.
use Rattle.std.specs.Prelude.{◌≡◌, ◌+◌, ℕ, Option}
use Rattle.std.specs.Option.{option_map}

-- one less than there were
abbrev pub OneLess : Option ℕ → Option ℕ → Type 0
OneLess old new = old ≡ option_map (λ left. left + 1) new
