-- What is written of a table is read as the table.
use Rattle.std.specs.Prelude.{◌≡◌, ◌<◌, ◌≤◌, ◌^◌, List, length, IsUtf8, Ok, ⊤}
use Rattle.std.specs.List.{AllByRecursion}
use Rattle.bv_core.specs.Value.{IsBits}
use Rattle.bv_core.specs.declared.Ref.{Ref}
use Rattle.bv_core.specs.declared.Ref.TheVariants.{Node, Const}
use Rattle.bv_core.specs.declared.Binding.{Binding}
use Rattle.bv_core.specs.declared.Binding.TheVariants.{Value, Unset, Removed}
use Rattle.symtab.specs.Shape.{IsTable}
use Rattle.symtab.specs.declared.parts.GenVariable.{GenVariable}
use Rattle.symtab.specs.declared.parts.VariantParts.{VariantParts}
use Rattle.symtab.specs.declared.parts.Row.{Row}
use Rattle.symtab.specs.declared.parts.Slot.{Slot}
use Rattle.symtab.specs.declared.parts.TableParts.{TableParts}
use Rattle.symtab_json.specs.Files.{symbols_text}
use Rattle.symtab_json.specs.Told.{told_table}

-- a literal is a value
abbrev pub RefIsValue : Ref → Type 0
RefIsValue (Node id width) = ⊤
RefIsValue (Const bits) = IsBits bits

abbrev pub CellIsValue : Binding → Type 0
CellIsValue (Value at) = RefIsValue at
CellIsValue Unset = ⊤
CellIsValue Removed = ⊤

pub record RowIsValue (row : Row) : Type 0 where
  pub on : RefIsValue row.on
  pub cells : AllByRecursion CellIsValue row.cells

-- the names of generator variables are UTF-8
abbrev pub GensAreTexts : List GenVariable → Type 0
GensAreTexts gens = AllByRecursion (λ gen. IsUtf8 gen.name) gens

-- the names of a variant are UTF-8
abbrev pub VariantIsText : VariantParts → Type 0
VariantIsText variant = IsUtf8 variant.module × GensAreTexts variant.gens

-- the names of a slot are UTF-8, and its literals are values
pub record SlotIsText (slot : Slot) : Type 0 where
  pub gens : GensAreTexts slot.gens
  pub names : AllByRecursion IsUtf8 slot.names
  pub rows : AllByRecursion RowIsValue slot.rows

-- all names are UTF-8 and all literals are values, as every `Bv` is; and the nodes are times_counted by 64 bits, as every list is
pub record AreTexts (parts : TableParts) : Type 0 where
  pub top : IsUtf8 parts.top
  pub few : length parts.nodes < 2 ^ 64
  pub nodes : AllByRecursion (λ node. IsUtf8 node.name) parts.nodes
  pub variants : AllByRecursion VariantIsText parts.variants
  pub instances : AllByRecursion (λ instance. IsUtf8 instance.path) parts.instances
  pub slots : AllByRecursion SlotIsText parts.slots

-- the file of a table whose names are texts, if it has at most 64 MiB, tells the table
abbrev pub FilesReadBack : Type 0
FilesReadBack = (parts : TableParts) → IsTable parts → AreTexts parts → length (symbols_text parts) ≤ 2 ^ 26 → told_table (symbols_text parts) ≡ Ok parts
