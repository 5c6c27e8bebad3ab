-- What functions that write a trail need of rows.
use Rattle.std.specs.Prelude.{◌≡◌, ℕ, ◌<◌, List, length, Option, Some, None, All}
use Rattle.bv_core.specs.declared.reference.Ref.{Ref}
use Rattle.bv_core.specs.declared.reference.Ref.TheVariants.{Node, Const}
use Rattle.bv_core.specs.declared.reference.Binding.{Binding}
use Rattle.bv_core.specs.declared.reference.Binding.TheVariants.{Value, Unset, Removed}
use Rattle.bv_core.specs.declared.reference.Sample.{Sample}
use Rattle.bv_core.specs.declared.reference.Sample.TheVariants as sampled
use Rattle.symtab.specs.declared.parts.Row.{Row}
use Rattle.symtab.specs.declared.parts.Slot.{Slot}
use Rattle.trace_core.specs.Samples.{Samples}

-- the samples of the cycle at which a cursor stands
abbrev pub samples_at : Samples → Option ℕ → ℕ → Sample
samples_at s None = λ node. sampled.Unknown
samples_at s (Some cycle) = s.sample cycle

-- a literal, or one of so many nodes
abbrev pub RefStands : ℕ → Ref → Type 0
RefStands nodes (Node id width) = id.0 < nodes
RefStands nodes (Const bits) = Unit {0}

abbrev pub CellStands : ℕ → Binding → Type 0
CellStands nodes (Value at) = RefStands nodes at
CellStands nodes Unset = Unit {0}
CellStands nodes Removed = Unit {0}

-- a row of a slot names nodes that there are, and has a cell for each name
pub record RowStands (nodes : ℕ) (names : List (List ℕ)) (row : Row) : Type 0 where
  pub on : RefStands nodes row.on
  pub long : length names ≡ length row.cells
  pub cells : All (CellStands nodes) row.cells

-- the rows of a slot do, and there is one for each of these instances
pub record SlotStands (nodes instances : ℕ) (slot : Slot) : Type 0 where
  pub long : length slot.rows ≡ instances
  pub rows : All (RowStands nodes slot.names) slot.rows
