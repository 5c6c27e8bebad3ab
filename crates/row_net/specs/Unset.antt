-- Where a name has no tree.
use Rattle.std.specs.Prelude.{◌≡◌, true, Some, None, ◌↔◌}
use Rattle.exec_core.specs.Block.{Name, Now}
use Rattle.list_core.specs.Lists.{IsIn}
use Rattle.exec_core.specs.Trees.{Row, block_rows, row_at}
use Rattle.design_core.specs.Design.{Design}
use Rattle.check_exec.specs.Premises.{IsSound}
use Rattle.world_core.specs.Sites.{site_body, unset_in, Spot, all_spots}

-- in an accepted design a name has no tree at a statement exactly where it is unset: it is an own name of the block, and some path
-- to the statement leaves a bit of it unassigned
abbrev pub UnsetExactly : Type 0
UnsetExactly =
    (d : Design) → IsSound d → (spot : Spot) → IsIn spot (all_spots d) → (row : Row) → row_at (spot.0).slot (block_rows (spot.0).widths (site_body spot.0)) ≡ Some row → (x : Name) →
    (row.before (Now x) ≡ None) ↔ (unset_in spot.0 (spot.0).slot x ≡ true)
