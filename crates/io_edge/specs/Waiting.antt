-- A text that waits to be taken by a sink.
use Rattle.std.specs.Prelude.{◌≡◌, ℕ, List, ◌++◌, Option}
use Rattle.io_edge.specs.Taken.{Appends}

-- a piece was put behind what waited before; a front of both was taken, and the rest waits
pub record Passes (old now : Option (List ℕ)) (before after piece : List ℕ) : Type 0 where
  pub done : List ℕ
  pub split : before ++ piece ≡ done ++ after
  pub grown : Appends old now done
