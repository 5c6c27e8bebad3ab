-- A read that failed, and ended the reading.
use Rattle.std.specs.Prelude.{◌≡◌, ℕ, ◌≤◌, List, [], ◌∷◌, ◌++◌, Option}
use Rattle.io_edge.specs.Faults.{Rose}
use Rattle.io_edge.specs.Taken.{Appends}

-- Of names that are to be read in order, some were asked for, and then one more, which was not read: no other was asked for. `before` is
-- what the files were before that one was asked for.
pub record StopsAt {S : Type 0} (asked : S → Option (List (List ℕ))) (fault_count : S → ℕ) (old new : S) (names : List (List ℕ)) : Type 0 where
  pub before : S
  pub done : List (List ℕ)
  pub name : List ℕ
  pub rest : List (List ℕ)
  pub split : names ≡ done ++ name ∷ rest
  pub first : Appends (asked old) (asked before) done
  pub last : Appends (asked before) (asked new) (name ∷ [])
  pub later : fault_count old ≤ fault_count before
  pub rose : Rose (fault_count before) (fault_count new)
