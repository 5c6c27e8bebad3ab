-- The symbol file of a table's parts.
use Rattle.std.specs.Prelude.{ℕ, List, map, codes}
use Rattle.places.specs.Places.{file_of, line_in}
use Rattle.bv_core.specs.Text.{shown}
use Rattle.bv_core.specs.declared.Ref.{Ref}
use Rattle.bv_core.specs.declared.Ref.TheVariants.{Node, Const}
use Rattle.bv_core.specs.declared.Binding.{Binding}
use Rattle.bv_core.specs.declared.Binding.TheVariants.{Value, Unset, Removed}
use Rattle.symtab.specs.declared.parts.NodeName.{NodeName}
use Rattle.symtab.specs.declared.parts.GenVariable.{GenVariable}
use Rattle.symtab.specs.declared.parts.VariantParts.{VariantParts}
use Rattle.symtab.specs.declared.parts.InstanceParts.{InstanceParts}
use Rattle.symtab.specs.declared.parts.Row.{Row}
use Rattle.symtab.specs.declared.parts.Slot.{Slot}
use Rattle.symtab.specs.declared.parts.TableParts.{TableParts}
use Rattle.serde_json.specs.Data.{Data, unsigned, number, string, array, object, item, no_items, Members, member, no_members}
use Rattle.serde_json.specs.Find.{of_integer}
use Rattle.serde_json.specs.View.{items_of}
use Rattle.serde_json.specs.Written.{compact_text}

-- a whole number that is not negative
abbrev pub count_json : ℕ → Data
count_json n = number (unsigned n)

-- a list
abbrev pub list_json : {A : Type 0} → (A → Data) → List A → Data
list_json tree xs = array (items_of (map tree xs))

-- a list of two
abbrev pub pair_json : Data → Data → Data
pair_json first second = array (item first (item second no_items))

-- a node: its name and its width
abbrev pub node_json : NodeName → Data
node_json node = pair_json (string node.name) (count_json node.width)

-- a generator variable: its name and its number
abbrev pub gen_json : GenVariable → Data
gen_json gen = pair_json (string gen.name) (number (of_integer gen.value))

-- a variant: the name of its module and its generator variables
abbrev pub variant_json : VariantParts → Data
variant_json variant = pair_json (string variant.module) (list_json gen_json variant.gens)

-- an instance: its path and the number of its variant
abbrev pub instance_json : InstanceParts → Data
instance_json instance = pair_json (string instance.path) (count_json instance.variant)

-- where a value is found: the number of a node, or a literal as it is printed
abbrev pub ref_json : Ref → Data
ref_json (Node id width) = count_json id.0
ref_json (Const bits) = string (shown bits)

-- what a name stands for
abbrev pub cell_json : Binding → Data
cell_json (Value at) = ref_json at
cell_json Unset = string (codes "unset")
cell_json Removed = string (codes "removed")

-- a row: its cells and its enable
abbrev pub row_json : Row → Data
row_json row = object (member (codes "cells") (list_json cell_json row.cells) (member (codes "on") (ref_json row.on) no_members))

-- the members of a slot, which tells its place as the number of a file and a line of it
abbrev pub slot_members : Slot → Members
slot_members slot =
    member (codes "file") (count_json (file_of slot.line)) (
    member (codes "gens") (list_json gen_json slot.gens) (
    member (codes "line") (count_json (line_in slot.line)) (
    member (codes "names") (list_json string slot.names) (
    member (codes "rows") (list_json row_json slot.rows) (
    member (codes "variant") (count_json slot.variant) no_members)))))

-- a slot
abbrev pub slot_json : Slot → Data
slot_json slot = object (slot_members slot)

-- the members of a symbol file, of version 2
abbrev pub table_members : TableParts → Members
table_members parts =
    member (codes "instances") (list_json instance_json parts.instances) (
    member (codes "nodes") (list_json node_json parts.nodes) (
    member (codes "slots") (list_json slot_json parts.slots) (
    member (codes "top") (string parts.top) (
    member (codes "variants") (list_json variant_json parts.variants) (
    member (codes "version") (count_json 2) no_members)))))

-- the JSON value that a symbol file is, with the keys of each object in the order of their bytes
abbrev pub table_json : TableParts → Data
table_json parts = object (table_members parts)

-- the bytes of the symbol file: the JSON library's compact text
abbrev pub symbols_text : TableParts → List ℕ
symbols_text parts = compact_text (table_json parts)
