-- What a table gives the functions that write its rows.
use Rattle.std.proofs.Common.{◌≡◌, ℕ, ◌<◌, ◌≤◌, List, [], length, Option, Some, None, option_map, refl, sym, ap, ◌∙◌, arith}
use Rattle.std.specs.Prelude.{slice_get}
use Rattle.std.specs.Option.{option_map_or}
use Rattle.std.proofs.lemmas.List.Elements.{All-weaker}
use Rattle.std.proofs.lemmas.Option.{none-some, slice_get_within}
use Rattle.bv_core.specs.declared.reference.Ref.{Ref}
use Rattle.bv_core.specs.declared.reference.Ref.TheVariants.{Node, Const}
use Rattle.bv_core.specs.declared.reference.Binding.{Binding}
use Rattle.bv_core.specs.declared.reference.Binding.TheVariants.{Value, Unset, Removed}
use Rattle.symtab.specs.declared.parts.NodeName.{NodeName}
use Rattle.symtab.specs.declared.parts.Row.{Row}
use Rattle.symtab.specs.declared.parts.Slot.{Slot}
use Rattle.symtab.specs.declared.parts.TableParts.{TableParts}
use Rattle.symtab.specs.Shape.{IsFound, IsCell, IsRow, IsTable, variants_of}
use Rattle.symtab.specs.Places.{places}
use Rattle.symtab.specs.Lookups.{instances_of}
use Rattle.symtab.proofs.Rows.{slot_fits}
use Rattle.trail_out.specs.Written.{RefStands, CellStands, RowStands, SlotStands}

mapped : {A B : Type 0} (f : A → B) (o : Option A) (b : B) → option_map f o ≡ Some b → (a : A) × (o ≡ Some a)
mapped f None b e = absurd (none-some b e)
mapped f (Some a) b e = (a, refl)

module _ (nodes : List NodeName) (n : ℕ) (enough : length nodes ≤ n) where
  ref_stands : (at : Ref) → IsFound nodes at → RefStands n at
  ref_stands (Node id width) h =
      let node = mapped (λ (node : NodeName). node.width) (slice_get nodes id.0) width h in
      let below : id.0 < length nodes = slice_get_within nodes id.0 node.0 node.1 in
      omega (arith, below, enough)
  ref_stands (Const bits) h = tt

  cell_stands : (cell : Binding) → IsCell nodes cell → CellStands n cell
  cell_stands (Value at) h = ref_stands at h
  cell_stands Unset h = tt
  cell_stands Removed h = tt

  row_stands : (names : List (List ℕ)) (row : Row) → IsRow nodes names row → RowStands n names row
  row_stands names row h = record { on = ref_stands row.on h.on; long = sym h.count; cells = All-weaker (IsCell nodes) (CellStands n) cell_stands row.cells h.cells }

-- there is a row for each instance
pub places_count : (parts : TableParts) → IsTable parts → (k : ℕ) (slot : Slot) → slice_get parts.slots k ≡ Some slot → length (instances_of parts k) ≡ length slot.rows
places_count parts table k slot at =
    ap (λ o. length (option_map_or (λ (s : Slot). places s.variant (variants_of parts.instances)) o [])) at ∙ sym (slot_fits parts table k slot at).count

-- the rows of a slot of a table
pub slot_stands : (parts : TableParts) → IsTable parts → (n : ℕ) → length parts.nodes ≤ n → (k : ℕ) (slot : Slot) → slice_get parts.slots k ≡ Some slot → SlotStands n (length (instances_of parts k)) slot
slot_stands parts table n enough k slot at = record {
  long = sym (places_count parts table k slot at);
  rows = All-weaker (IsRow parts.nodes slot.names) (RowStands n slot.names) (row_stands parts.nodes n enough slot.names) slot.rows (slot_fits parts table k slot at).rows;
}
