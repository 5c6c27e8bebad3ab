-- What is unset in an accepted design.
use Rattle.std.specs.Prelude.{◌≡◌, ℕ, true, None, ◌↔◌}
use Rattle.exec_core.specs.Block.{Name}
use Rattle.list_core.specs.Lists.{IsIn}
use Rattle.design_core.specs.Design.{Design}
use Rattle.world_core.specs.Sites.{Spot, all_spots}
use Rattle.world_core.specs.Source.{unset_at, tree_before}

-- at each statement, in each instance that has it, a name has no tree exactly where it is unset by the paths through the block. So each
-- name that is not unset has a tree, and that a name is unset is said once: by paths
abbrev pub UnsetByPaths : Design → ℕ → Type 0
UnsetByPaths d n =
    (spot : Spot) → IsIn spot (all_spots d) → (x : Name) → (tree_before d n (spot.0).slot spot.1 x ≡ None) ↔ (unset_at d (spot.0).slot x ≡ true)
