-- What the rows of a table are made of: where a node of a net is found among those that were kept of it.
use Rattle.std.specs.Prelude.{◌≡◌, ℕ, zero, suc, ◌+◌, ◌<◌, ◌≤◌, ◌==◌, List, [], ◌∷◌, length, map, Option, Some, None, IsSome, All, slice_get, if◌then◌else◌}
use Rattle.std.specs.Option.{ForSome}
use Rattle.bv_core.specs.Value.{Bits}
use Rattle.bv_core.specs.declared.reference.NodeId.{NodeId}
use Rattle.bv_core.specs.declared.reference.Ref.{Ref}
use Rattle.bv_core.specs.declared.reference.Ref.TheVariants.{Node, Const}
use Rattle.bv_core.specs.declared.reference.Binding.{Binding}
use Rattle.bv_core.specs.declared.reference.Binding.TheVariants.{Value, Unset, Removed}
use Rattle.net_core.specs.Nodes.{Shape, shape_at, width_at}
use Rattle.net_core.specs.Builder.{constant_shape}
use Rattle.symtab.specs.declared.parts.Row.{Row}
use Rattle.symtab.specs.declared.parts.Slot.{Slot}
use Rattle.lower_core.specs.declared.row.FullRow.{FullRow}
use Rattle.walk_net.specs.Renaming.{id_at}

-- a constant by its value, and another node by its new id, if it got one
abbrev pub kept_ref : Option NodeId → ℕ → Option Ref
kept_ref None width = None
kept_ref (Some id) width = Some (Node id width)

abbrev pub ref_by : Option Bits → Option NodeId → ℕ → Option Ref
ref_by (Some bits) id width = Some (Const bits)
ref_by None id width = kept_ref id width

abbrev pub ref_made : List Shape → List (Option NodeId) → NodeId → Option Ref
ref_made ns ids id = ref_by (constant_shape (shape_at ns id.0)) (id_at ids id.0) (width_at ns id.0)

-- a cell: unset where there is no node, and removed where the node is not found
abbrev pub found_binding : Option Ref → Binding
found_binding (Some at) = Value at
found_binding None = Removed

abbrev pub cell_made : List Shape → List (Option NodeId) → Option NodeId → Binding
cell_made ns ids None = Unset
cell_made ns ids (Some id) = found_binding (ref_made ns ids id)

-- a row of a table is made of a row of a lowered design
pub record IsMade (ns : List Shape) (ids : List (Option NodeId)) (full : FullRow) (row : Row) : Type 0 where
  pub on : ref_made ns ids full.on ≡ Some row.on
  pub cells : row.cells ≡ map (cell_made ns ids) full.cells

abbrev pub AreMade : List Shape → List (Option NodeId) → List FullRow → List Row → Type 0
AreMade ns ids [] [] = Unit {0}
AreMade ns ids [] (row ∷ made) = ⊥
AreMade ns ids (full ∷ rows) [] = ⊥
AreMade ns ids (full ∷ rows) (row ∷ made) = IsMade ns ids full row × AreMade ns ids rows made

-- a row can be made: its nodes are nodes of the net, and its enable is found
pub record CanBeMade (ns : List Shape) (ids : List (Option NodeId)) (row : FullRow) : Type 0 where
  pub on : row.on.0 < length ns
  pub cells : All (λ cell. ForSome cell (λ id. id.0 < length ns)) row.cells
  pub found : IsSome (ref_made ns ids row.on)

-- the rows of a slot at the front of rows, and those behind them
abbrev pub front_of : ℕ → List FullRow → List FullRow
front_of k [] = []
front_of k (row ∷ rows) = if row.slot == k then row ∷ front_of k rows else []

abbrev pub rest_of : ℕ → List FullRow → List FullRow
rest_of k [] = []
rest_of k (row ∷ rows) = if row.slot == k then rest_of k rows else row ∷ rows

-- a slot that was filled: it is as it was, with rows that are made of these
pub record IsFilled (ns : List Shape) (ids : List (Option NodeId)) (rows : List FullRow) (old new : Slot) : Type 0 where
  pub variant : new.variant ≡ old.variant
  pub line : new.line ≡ old.line
  pub gens : new.gens ≡ old.gens
  pub names : new.names ≡ old.names
  pub rows_made : AreMade ns ids rows new.rows

-- slots with numbers from one on, each filled with the rows of its number
abbrev pub AreFilled : List Shape → List (Option NodeId) → ℕ → List FullRow → List Slot → List Slot → Type 0
AreFilled ns ids k rows [] [] = Unit {0}
AreFilled ns ids k rows [] (new ∷ filled) = ⊥
AreFilled ns ids k rows (old ∷ slots) [] = ⊥
AreFilled ns ids k rows (old ∷ slots) (new ∷ filled) = IsFilled ns ids (front_of k rows) old new × AreFilled ns ids (k + 1) (rest_of k rows) slots filled

-- the rows behind those of the first slots
abbrev pub rest_after : ℕ → List FullRow → List FullRow
rest_after zero rows = rows
rest_after (suc k) rows = rest_of k (rest_after k rows)

-- the slot of a number was filled
pub record IsFilledAt (ns : List Shape) (ids : List (Option NodeId)) (rows : List FullRow) (before now : List Slot) (k : ℕ) : Type 0 where
  pub old : Slot
  pub new : Slot
  pub was : slice_get before k ≡ Some old
  pub is : slice_get now k ≡ Some new
  pub filled : IsFilled ns ids (front_of k (rest_after k rows)) old new

-- the slots below a number were filled, and the others are as they were
pub record AreFilledBelow (ns : List Shape) (ids : List (Option NodeId)) (rows : List FullRow) (before now : List Slot) (k : ℕ) : Type 0 where
  pub long : length now ≡ length before
  pub below : (j : ℕ) → j < k → IsFilledAt ns ids rows before now j
  pub others : (j : ℕ) → k ≤ j → slice_get now j ≡ slice_get before j
