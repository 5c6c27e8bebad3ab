-- The nodes that a symbol table needs: those that a cell or an enable of it names.
use Rattle.std.specs.Prelude.{ℕ, ◌==◌, ◌||◌, Bool, false, List, map}
use Rattle.std.specs.List.{list_any}
use Rattle.bv_core.specs.declared.reference.Ref.{Ref}
use Rattle.bv_core.specs.declared.reference.Ref.TheVariants.{Node, Const}
use Rattle.bv_core.specs.declared.reference.Binding.{Binding}
use Rattle.bv_core.specs.declared.reference.Binding.TheVariants.{Value, Unset, Removed}
use Rattle.symtab.specs.declared.parts.NodeName.{NodeName}
use Rattle.symtab.specs.declared.parts.Row.{Row}
use Rattle.symtab.specs.declared.parts.Slot.{Slot}
use Rattle.symtab.specs.declared.parts.TableParts.{TableParts}

-- found at this node
abbrev pub is_at : ℕ → Ref → Bool
is_at n (Node id width) = id.0 == n
is_at n (Const bits) = false

-- its value is found at this node
abbrev pub cell_names : ℕ → Binding → Bool
cell_names n (Value at) = is_at n at
cell_names n Unset = false
cell_names n Removed = false

-- its enable or one of its cells names this node
abbrev pub row_names : ℕ → Row → Bool
row_names n row = is_at n row.on || list_any (cell_names n) row.cells

abbrev pub slot_names : ℕ → Slot → Bool
slot_names n slot = list_any (row_names n) slot.rows

-- a cell or an enable of a table names this node
abbrev pub is_named : TableParts → ℕ → Bool
is_named parts n = list_any (slot_names n) parts.slots

-- the names of a table's nodes, by number
abbrev pub node_names : TableParts → List (List ℕ)
node_names parts = map (λ (node : NodeName). node.name) parts.nodes
