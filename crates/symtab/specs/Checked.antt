-- The rules of shape in the groups in which they are tested.
use Rattle.std.specs.Prelude.{◌≡◌, ℕ, ◌<◌, ◌^◌, List, Some, All, length, map, slice_get}
use Rattle.symtab.specs.declared.parts.NodeName.{NodeName}
use Rattle.symtab.specs.declared.parts.Slot.{Slot}
use Rattle.symtab.specs.declared.parts.TableParts.{TableParts}
use Rattle.symtab.specs.Places.{places}
use Rattle.symtab.specs.Apart.{AreApart}
use Rattle.symtab.specs.Shape.{IsShort, IsWidth, AreGens, IsRow, IsSlot, paths_of}

-- the rules on the variant, the line, the generator variables and the number of names of a slot
pub record IsPlaced (variants : ℕ) (slot : Slot) : Type 0 where
  pub variant : slot.variant < variants
  pub line : slot.line < 2 ^ 30
  pub gens : AreGens slot.gens
  pub short_names : IsShort slot.names

-- the rules on the rows of a slot
pub record AreRows (nodes : List NodeName) (of_instances : List ℕ) (slot : Slot) : Type 0 where
  pub short_rows : IsShort slot.rows
  pub count : length slot.rows ≡ length (places slot.variant of_instances)
  pub rows : All (IsRow nodes slot.names) slot.rows

-- the rules that speak neither of slots nor of names that differ
pub record IsNumbered (parts : TableParts) : Type 0 where
  pub widths : All (λ node. IsWidth node.width) parts.nodes
  pub short_variants : IsShort parts.variants
  pub variants : All (λ variant. AreGens variant.gens) parts.variants
  pub short_instances : IsShort parts.instances
  pub instances : All (λ instance. instance.variant < length parts.variants) parts.instances
  pub top : slice_get (paths_of parts.instances) 0 ≡ Some parts.top
  pub short_slots : IsShort parts.slots

-- the rules that speak of names that differ, and of slots, over the variant of each instance
pub record AreNamed (of_instances : List ℕ) (parts : TableParts) : Type 0 where
  pub node_names : AreApart (map (λ node. node.name) parts.nodes)
  pub paths : AreApart (paths_of parts.instances)
  pub slots : All (IsSlot parts.nodes (length parts.variants) of_instances) parts.slots
