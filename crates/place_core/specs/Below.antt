-- The numbers of the instances that stand in each instance, in lists by the number of that instance.
use Rattle.std.specs.Prelude.{◌≡◌, ℕ, ◌<◌, ◌==◌, List, [], ◌∷◌, ◌++◌, length, map, Some, Vec, slice_get, if◌then◌else◌}
use Rattle.std.specs.Global.{Global}
use Rattle.std.specs.List.{enumerate_from, flat_map}
use Rattle.design_core.specs.declared.design.Instance.{Instance}
use Rattle.design_exec.specs.Processes.{kept_below}

-- what vectors hold
abbrev pub lists_of : List (Vec ℕ Global) → List (List ℕ)
lists_of lists = map (λ v. v.items) lists

-- so many lists, of which that of a number has this
pub record AreLists (count : ℕ) (below : ℕ → List ℕ) (lists : List (List ℕ)) : Type 0 where
  pub long : length lists ≡ count
  pub each : (i : ℕ) → i < count → slice_get lists i ≡ Some (below i)

abbrev pub none_below : ℕ → List ℕ
none_below i = []

-- those that stand in an instance, of some instances from the first on
abbrev pub some_below : List Instance → ℕ → List ℕ
some_below rs i = flat_map (kept_below i) (enumerate_from 0 rs)

abbrev pub PutsSome : List Instance → ℕ → List (List ℕ) → Type 0
PutsSome rs count lists = AreLists count (some_below rs) lists

-- one number more in the list of this number, whatever the lists have
abbrev pub PutsNumber : ℕ → ℕ → List (List ℕ) → List (List ℕ) → Type 0
PutsNumber parent n old new = (count : ℕ) (below : ℕ → List ℕ) → AreLists count below old → AreLists count (λ i. below i ++ (if parent == i then n ∷ [] else [])) new

-- an instance of this number behind the others of its parent
abbrev pub PutsBelow : ℕ → Instance → List (List ℕ) → List (List ℕ) → Type 0
PutsBelow n r old new = (count : ℕ) (below : ℕ → List ℕ) → AreLists count below old → AreLists count (λ i. below i ++ kept_below i (n, r)) new
