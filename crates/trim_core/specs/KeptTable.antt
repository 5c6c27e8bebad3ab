-- The symbol table of a design: where each enable and each name of it is found among the trees that are kept.
use Rattle.std.specs.Prelude.{ℕ, ◌||◌, List, map, Option, Some, None, is_some, if◌then◌else◌}
use Rattle.bv_core.specs.Value.{Bits}
use Rattle.bv_core.specs.declared.reference.Ref.{Ref}
use Rattle.bv_core.specs.declared.reference.Ref.TheVariants.{Node, Const}
use Rattle.bv_core.specs.declared.reference.Binding.{Binding}
use Rattle.bv_core.specs.declared.reference.Binding.TheVariants.{Value, Unset, Removed}
use Rattle.tree_core.specs.Tree.{Whole}
use Rattle.tree_core.specs.Width.{tree_width}
use Rattle.tree_core.specs.Fold.{constant}
use Rattle.exec_core.specs.Block.{Name}
use Rattle.exec_core.specs.Kept.{has_number}
use Rattle.design_core.specs.Design.{Design}
use Rattle.symtab.specs.declared.parts.Row.{Row}
use Rattle.symtab.specs.declared.parts.Slot.{Slot}
use Rattle.symtab.specs.declared.parts.TableParts.{TableParts}
use Rattle.world_core.specs.declared.mode.Mode.{Mode}
use Rattle.world_core.specs.Sites.{Site, sites_in_order, Spot, spots_of}
use Rattle.world_core.specs.Kept.{enable_tree, name_tree, kept_trees}
use Rattle.lower_core.specs.Shape.{slot_part, shape_of}
use Rattle.trim_core.specs.Named.{node_names}
use Rattle.trim_core.specs.KeptNet.{number_of, kept_net}

-- where a tree is found among these: as a literal where it is a constant, and otherwise at its number
abbrev pub found_as : Option Bits → List Whole → Whole → Ref
found_as (Some b) ts t = Const b
found_as None ts t = Node (record { 0 = number_of ts t }) (tree_width t)

abbrev pub found_at : List Whole → Whole → Ref
found_at ts t = found_as (constant t) ts t

-- what a name stands for: it is unset where it has no tree, and removed where its tree is neither a constant nor one of these
abbrev pub name_cell : List Whole → Option Whole → Binding
name_cell ts None = Unset
name_cell ts (Some t) = if is_some (constant t) || has_number t ts then Value (found_at ts t) else Removed

-- where an enable is found. Each statement of a block has one; what is none would not be executed
abbrev pub enable_cell : List Whole → Option Whole → Ref
enable_cell ts (Some t) = found_at ts t
enable_cell ts None = Const (record { width = 1; value = 0 })

-- a statement in an instance: its enable, and each name in scope, in order
abbrev pub kept_cell : Design → ℕ → List Whole → Spot → Name → Binding
kept_cell d n ts p x = name_cell ts (name_tree d n p x)

abbrev pub kept_row : Design → ℕ → List Whole → Spot → Row
kept_row d n ts p = record { on = enable_cell ts (enable_tree d n p); cells = map (kept_cell d n ts p) p.0.names }

-- a statement, with a row for each instance of its variant, in preorder
abbrev pub kept_slot : Design → ℕ → List Whole → Site → Slot
kept_slot d n ts s = record (slot_part s) { rows = map (kept_row d n ts) (spots_of d s) }

-- the table of a design: its parts, with the kept trees as nodes, by their numbers, and each statement with its rows. n is how many
-- signals are driven
abbrev pub kept_table : Design → ℕ → Mode → TableParts
kept_table d n mode = record (shape_of d) {
  nodes = node_names (kept_net d n mode).nodes;
  slots = map (kept_slot d n (kept_trees d n mode)) (sites_in_order d);
}
