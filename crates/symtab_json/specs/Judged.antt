-- The parts of a symbol file, each with its rules of shape, and the numbers in them that are judged by themselves.
use Rattle.std.specs.Prelude.{ℕ, ◌&&◌, ◌||◌, ◌==◌, List, [], ◌∷◌, length, map, slice_get, Bool, false, nat_le, codes, bytes_eq, Option, Some, None, if◌then◌else◌}
use Rattle.std.specs.List.{list_all}
use Rattle.std.specs.Option.{option_map_or, option_or}
use Rattle.bv_core.specs.declared.Ref.{Ref}
use Rattle.bv_core.specs.declared.Ref.TheVariants.{Node, Const}
use Rattle.bv_core.specs.declared.Binding.{Binding}
use Rattle.bv_core.specs.declared.Binding.TheVariants.{Value, Unset, Removed}
use Rattle.symtab.specs.declared.parts.NodeName.{NodeName}
use Rattle.symtab.specs.declared.parts.VariantParts.{VariantParts}
use Rattle.symtab.specs.declared.parts.InstanceParts.{InstanceParts}
use Rattle.symtab.specs.declared.parts.Row.{Row}
use Rattle.symtab.specs.declared.parts.Slot.{Slot}
use Rattle.symtab.specs.declared.parts.TableParts.{TableParts}
use Rattle.serde_json.specs.Data.{Data}
use Rattle.serde_json.specs.Events.{items_len}
use Rattle.serde_json.specs.Find.{as_array, as_str, get}
use Rattle.symtab_json.specs.declared.entries.InstanceEntry.{InstanceEntry}
use Rattle.symtab_json.specs.declared.entries.SlotEntry.{SlotEntry}
use Rattle.symtab_json.specs.declared.entries.Entries.{Entries}
use Rattle.symtab_json.specs.declared.entries.Outside.{Outside}
use Rattle.symtab_json.specs.Entries.{kept_if, told_instance, told_list, told_member, told_node, told_short, told_slot, told_variant}
use Rattle.symtab_json.specs.Places.{are_apart, instance_count}

-- ---- the rules of each part

-- the paths differ
abbrev pub paths_differ : List InstanceEntry → Bool
paths_differ instances = are_apart (map (λ instance. instance.path) instances)

abbrev pub told_instances : Data → Option (List InstanceEntry)
told_instances d = kept_if paths_differ (told_member (told_short told_instance) (codes "instances") d)

-- the names differ
abbrev pub names_of_nodes_differ : List NodeName → Bool
names_of_nodes_differ nodes = are_apart (map (λ node. node.name) nodes)

abbrev pub told_nodes : Data → Option (List NodeName)
told_nodes d = kept_if names_of_nodes_differ (told_member (told_list told_node) (codes "nodes") d)

-- how many entries a list has; none where it is no list
abbrev pub list_len : Data → ℕ
list_len d = option_map_or items_len (as_array d) 0

-- how many variants there are, whatever they are; none where they are missing or no list
abbrev pub variants_len : Data → ℕ
variants_len d = option_map_or list_len (get (codes "variants") d) 0

-- a row with this many cells
abbrev pub has_cells : ℕ → Row → Bool
has_cells count row = length row.cells == count

-- a slot has a row for each instance of its variant, if that is one of this many variants; each row has a cell for each
-- name; and the names differ
abbrev pub is_full : ℕ → (ℕ → ℕ) → SlotEntry → Bool
is_full variants instances slot =
    (nat_le variants slot.variant || length slot.rows == instances slot.variant)
    && (list_all (has_cells (length slot.names)) slot.rows && are_apart slot.names)

abbrev pub are_full : ℕ → (ℕ → ℕ) → List SlotEntry → Bool
are_full variants instances slots = list_all (is_full variants instances) slots

-- the slots of a file where they have files, or where they have none
abbrev pub told_slots : Bool → Data → List InstanceEntry → List NodeName → Option (List SlotEntry)
told_slots filed d instances nodes =
    kept_if (are_full (variants_len d) (instance_count instances)) (told_member (told_short (told_slot filed nodes)) (codes "slots") d)

-- an instance with this path
abbrev pub has_path : List ℕ → InstanceEntry → Bool
has_path path instance = bytes_eq instance.path path

-- the path of the first instance
abbrev pub is_first : List InstanceEntry → List ℕ → Bool
is_first instances path = option_map_or (has_path path) (slice_get instances 0) false

abbrev pub told_top : Data → List InstanceEntry → Option (List ℕ)
told_top d instances = kept_if (is_first instances) (told_member as_str (codes "top") d)

abbrev pub told_variants : Data → Option (List VariantParts)
told_variants d = told_member (told_short told_variant) (codes "variants") d

-- ---- the first number that is outside its list

-- a number, for a list of this size
abbrev pub outside_list : ℕ → ℕ → Option Outside
outside_list size id = if nat_le size id then Some (record { id = id; size = size }) else None

-- the first that an entry has
abbrev pub first_outside : {A : Type 0} → (A → Option Outside) → List A → Option Outside
first_outside outside [] = None
first_outside outside (x ∷ xs) = option_or (outside x) (first_outside outside xs)

abbrev pub ref_outside : ℕ → Ref → Option Outside
ref_outside nodes (Node id width) = outside_list nodes id.0
ref_outside nodes (Const bits) = None

abbrev pub cell_outside : ℕ → Binding → Option Outside
cell_outside nodes (Value at) = ref_outside nodes at
cell_outside nodes Unset = None
cell_outside nodes Removed = None

-- the cells, and then the enable
abbrev pub row_outside : ℕ → Row → Option Outside
row_outside nodes row = option_or (first_outside (cell_outside nodes) row.cells) (ref_outside nodes row.on)

-- the variant, and then row by row
abbrev pub slot_outside : ℕ → ℕ → SlotEntry → Option Outside
slot_outside variants nodes slot = option_or (outside_list variants slot.variant) (first_outside (row_outside nodes) slot.rows)

abbrev pub instance_outside : ℕ → InstanceEntry → Option Outside
instance_outside variants instance = outside_list variants instance.variant

-- the instances, and then the slots
abbrev pub entries_outside : Entries → Option Outside
entries_outside e =
    option_or (first_outside (instance_outside (length e.variants)) e.instances)
    (first_outside (slot_outside (length e.variants) (length e.nodes)) e.slots)

-- ---- the parts that entries are

abbrev pub instance_parts : InstanceEntry → InstanceParts
instance_parts instance = record { path = instance.path; variant = instance.variant }

abbrev pub slot_parts : SlotEntry → Slot
slot_parts slot = record { variant = slot.variant; line = slot.line; gens = slot.gens; names = slot.names; rows = slot.rows }

abbrev pub told_parts : Entries → TableParts
told_parts e = record {
  top = e.top;
  nodes = e.nodes;
  variants = e.variants;
  instances = map instance_parts e.instances;
  slots = map slot_parts e.slots;
}
