-- The rules that the parts of a symbol table keep.
use Rattle.std.specs.Prelude.{◌≡◌, ℕ, ◌<◌, ◌≤◌, ◌^◌, ℤ, pos, neg_ℤ, ◌≤ℤ◌, List, Some, All, length, map, slice_get, option_map}
use Rattle.bv_core.specs.declared.Ref.{Ref}
use Rattle.bv_core.specs.declared.Ref.TheVariants.{Node, Const}
use Rattle.bv_core.specs.declared.Binding.{Binding}
use Rattle.bv_core.specs.declared.Binding.TheVariants.{Value, Unset, Removed}
use Rattle.symtab.specs.declared.parts.NodeName.{NodeName}
use Rattle.symtab.specs.declared.parts.GenVariable.{GenVariable}
use Rattle.symtab.specs.declared.parts.InstanceParts.{InstanceParts}
use Rattle.symtab.specs.declared.parts.Row.{Row}
use Rattle.symtab.specs.declared.parts.Slot.{Slot}
use Rattle.symtab.specs.declared.parts.TableParts.{TableParts}
use Rattle.symtab.specs.Apart.{AreApart}
use Rattle.symtab.specs.Places.{places}

-- fewer than 2^32 entries
abbrev pub IsShort : {A : Type 0} → List A → Type 0
IsShort xs = length xs < 2 ^ 32

-- a width in bits: from 1 to 128
pub record IsWidth (width : ℕ) : Type 0 where
  pub some : 1 ≤ width
  pub most : width ≤ 128

-- the number of a generator variable: from -2^62 to 2^62
pub record IsGenNumber (number : ℤ) : Type 0 where
  pub least : neg_ℤ (pos (2 ^ 62)) ≤ℤ number
  pub most : number ≤ℤ pos (2 ^ 62)

-- generator variables: few enough, with numbers in range
pub record AreGens (gens : List GenVariable) : Type 0 where
  pub short : IsShort gens
  pub numbers : All (λ gen. IsGenNumber gen.value) gens

-- the variant of each instance
abbrev pub variants_of : List InstanceParts → List ℕ
variants_of instances = map (λ instance. instance.variant) instances

-- the line of each slot
abbrev pub lines_of : List Slot → List ℕ
lines_of slots = map (λ slot. slot.line) slots

-- the path of each instance
abbrev pub paths_of : List InstanceParts → List (List ℕ)
paths_of instances = map (λ instance. instance.path) instances

-- the width of what is found here
abbrev pub width_of : Ref → ℕ
width_of (Node id width) = width
width_of (Const bits) = bits.width

-- a literal, or one of these nodes with its own width
abbrev pub IsFound : List NodeName → Ref → Type 0
IsFound nodes (Node id width) = option_map (λ node. node.width) (slice_get nodes id.0) ≡ Some width
IsFound nodes (Const bits) = Unit {0}

-- a value that is found, or none
abbrev pub IsCell : List NodeName → Binding → Type 0
IsCell nodes (Value at) = IsFound nodes at
IsCell nodes Unset = Unit {0}
IsCell nodes Removed = Unit {0}

-- a row over these nodes, for these names: its enable has width 1, and it has a cell for each name
pub record IsRow (nodes : List NodeName) (names : List (List ℕ)) (row : Row) : Type 0 where
  pub on : IsFound nodes row.on
  pub on_width : width_of row.on ≡ 1
  pub short : IsShort row.cells
  pub count : length row.cells ≡ length names
  pub cells : All (IsCell nodes) row.cells

-- a slot over these nodes, this many variants, and the variants of the instances: its names differ, and it has a row
-- for each instance of its variant
pub record IsSlot (nodes : List NodeName) (variants : ℕ) (of_instances : List ℕ) (slot : Slot) : Type 0 where
  pub variant : slot.variant < variants
  pub line : slot.line < 2 ^ 30
  pub gens : AreGens slot.gens
  pub short_names : IsShort slot.names
  pub names : AreApart slot.names
  pub short_rows : IsShort slot.rows
  pub count : length slot.rows ≡ length (places slot.variant of_instances)
  pub rows : All (IsRow nodes slot.names) slot.rows

-- the parts of a table: widths are 1 to 128, the names of nodes differ, the paths differ, the first of them is `top`,
-- and every variant, instance and slot keeps its rules
pub record IsTable (parts : TableParts) : Type 0 where
  pub widths : All (λ node. IsWidth node.width) parts.nodes
  pub node_names : AreApart (map (λ node. node.name) parts.nodes)
  pub short_variants : IsShort parts.variants
  pub variants : All (λ variant. AreGens variant.gens) parts.variants
  pub short_instances : IsShort parts.instances
  pub instances : All (λ instance. instance.variant < length parts.variants) parts.instances
  pub paths : AreApart (paths_of parts.instances)
  pub top : slice_get (paths_of parts.instances) 0 ≡ Some parts.top
  pub short_slots : IsShort parts.slots
  pub slots : All (IsSlot parts.nodes (length parts.variants) (variants_of parts.instances)) parts.slots
