-- What a compiled design is: the net of its kept trees, with a symbol table that finds each name there or says why not.
use Rattle.std.specs.Prelude.{◌≡◌, ◌↔◌, ℕ, true, ◌<◌, List, [], ◌∷◌, length, map, Option, Some, None}
use Rattle.bv_core.specs.declared.reference.Ref.{Ref}
use Rattle.bv_core.specs.declared.reference.Ref.TheVariants.{Node, Const}
use Rattle.bv_core.specs.declared.reference.Binding.{Binding}
use Rattle.bv_core.specs.declared.reference.Binding.TheVariants.{Value, Unset, Removed}
use Rattle.tree_core.specs.Tree.{Leaf, Origin, Input, Register, Whole}
use Rattle.tree_core.specs.Width.{tree_width}
use Rattle.tree_core.specs.Fold.{constant}
use Rattle.exec_core.specs.Block.{Name}
use Rattle.list_core.specs.Lists.{EachOf, IsIn, AreApart}
use Rattle.exec_core.specs.Whole.{Place}
use Rattle.exec_core.specs.States.{OverGivens}
use Rattle.design_core.specs.Design.{Design}
use Rattle.design_core.specs.Ports.{ports_in, top_signals}
use Rattle.design_exec.specs.Processes.{processes_of}
use Rattle.net_core.specs.Nodes.{Shape, trees_of, tree_of}
use Rattle.net_core.specs.Builder.{Stands}
use Rattle.net_core.specs.Nets.{NetParts, IsNet}
use Rattle.symtab.specs.declared.parts.Row.{Row}
use Rattle.symtab.specs.declared.parts.Slot.{Slot}
use Rattle.symtab.specs.declared.parts.TableParts.{TableParts}
use Rattle.symtab.specs.Shape.{IsTable}
use Rattle.world_core.specs.declared.mode.Mode.{Mode}
use Rattle.world_core.specs.Sites.{Site, sites_in_order, Spot, spots_of}
use Rattle.world_core.specs.Kept.{enable_tree, name_tree, IsKeptIn, kept_trees}
use Rattle.lower_core.specs.Shape.{shape_of}
use Rattle.lower_core.specs.Lowered.{OutputsTold, HasNext}
use Rattle.trim_core.specs.Named.{node_names}

-- a tree is found: as a literal where it is a constant, and otherwise at the node that stands for it
abbrev pub FoundTold : List Shape → Whole → Ref → Type 0
FoundTold nodes t (Const b) = constant t ≡ Some b
FoundTold nodes t (Node id width) = (constant t ≡ None) × (Stands nodes id.0 t × (width ≡ tree_width t))

-- what a name stands for: it is unset where it has no tree, and removed where its tree is neither a constant nor kept
abbrev pub NameTold : Design → ℕ → Mode → List Shape → Option Whole → Binding → Type 0
NameTold d n mode nodes (Some t) (Value at) = FoundTold nodes t at
NameTold d n mode nodes (Some t) Removed = (constant t ≡ None) × (IsKeptIn d n mode t → ⊥)
NameTold d n mode nodes (Some t) Unset = ⊥
NameTold d n mode nodes None (Value at) = ⊥
NameTold d n mode nodes None Removed = ⊥
NameTold d n mode nodes None Unset = Unit {0}

-- one for each name in scope, in order
abbrev pub NamesTold : Design → ℕ → Mode → List Shape → Spot → List Name → List Binding → Type 0
NamesTold d n mode nodes p [] [] = Unit {0}
NamesTold d n mode nodes p [] (cell ∷ cells) = ⊥
NamesTold d n mode nodes p (x ∷ names) [] = ⊥
NamesTold d n mode nodes p (x ∷ names) (cell ∷ cells) = NameTold d n mode nodes (name_tree d n p x) cell × NamesTold d n mode nodes p names cells

-- a statement in an instance: where its enable is found, and what each name in scope stands for
pub record RowTold (d : Design) (n : ℕ) (mode : Mode) (nodes : List Shape) (p : Spot) (row : Row) : Type 0 where
  pub enable : Whole
  pub is : enable_tree d n p ≡ Some enable
  pub on : FoundTold nodes enable row.on
  pub cells : NamesTold d n mode nodes p p.0.names row.cells

-- a row for each instance of the statement's variant, in preorder
abbrev pub RowsTold : Design → ℕ → Mode → List Shape → List Spot → List Row → Type 0
RowsTold d n mode nodes [] [] = Unit {0}
RowsTold d n mode nodes [] (row ∷ rows) = ⊥
RowsTold d n mode nodes (p ∷ spots) [] = ⊥
RowsTold d n mode nodes (p ∷ spots) (row ∷ rows) = RowTold d n mode nodes p row × RowsTold d n mode nodes spots rows

-- those of each statement, in the order of slots
abbrev pub SlotsTold : Design → ℕ → Mode → List Shape → List Site → List Slot → Type 0
SlotsTold d n mode nodes [] [] = Unit {0}
SlotsTold d n mode nodes [] (slot ∷ slots) = ⊥
SlotsTold d n mode nodes (s ∷ sites) [] = ⊥
SlotsTold d n mode nodes (s ∷ sites) (slot ∷ slots) = RowsTold d n mode nodes (spots_of d s) slot.rows × SlotsTold d n mode nodes sites slots

-- a slot without its rows, and the parts of a table without nodes and rows
abbrev pub bare_slot : Slot → Slot
bare_slot s = record { variant = s.variant; line = s.line; gens = s.gens; names = s.names; rows = [] }

abbrev pub bare : TableParts → TableParts
bare parts = record { top = parts.top; nodes = []; variants = parts.variants; instances = parts.instances; slots = map bare_slot parts.slots }

-- a register that is kept has a next value: a node that stands for the folded tree of what it holds next
abbrev pub NextKept : Design → ℕ → NetParts → Place → Origin → Type 0
NextKept d n net p (Input name width) = Unit {0}
NextKept d n net p (Register instance name start) = IsIn (Leaf (Register instance name start)) (trees_of net.nodes) → HasNext d n net p (Register instance name start)

-- the net of the kept trees of a design, where n signals are driven
pub record IsKeptNet (d : Design) (n : ℕ) (mode : Mode) (net : NetParts) : Type 0 where
  -- the nodes are exactly the kept trees, each once, in the numbering of the walk
  pub numbered : trees_of net.nodes ≡ kept_trees d n mode
  pub kept : (t : Whole) → IsIn t (trees_of net.nodes) ↔ IsKeptIn d n mode t
  pub once : AreApart (trees_of net.nodes)
  pub is_net : IsNet net
  pub outputs : OutputsTold d n net.nodes (ports_in true (top_signals d)) net.outputs
  pub nexts : EachOf (λ given. NextKept d n net given.0 given.1) (processes_of d).givens
  -- every node's tree is one of inputs of the top and registers
  pub over : (j : ℕ) → j < length net.nodes → OverGivens (processes_of d) (tree_of net.nodes j)

-- a table tells a design by these nodes: it has the shape of the design, the nodes by their names, and each name in scope
pub record TellsDesign (d : Design) (n : ℕ) (mode : Mode) (nodes : List Shape) (parts : TableParts) : Type 0 where
  pub shape : bare parts ≡ shape_of d
  pub names : parts.nodes ≡ node_names nodes
  pub slots : SlotsTold d n mode nodes (sites_in_order d) parts.slots

-- a design compiled: the net of its kept trees with its symbol table
pub record IsTrimmed (d : Design) (n : ℕ) (mode : Mode) (net : NetParts) (parts : TableParts) : Type 0 where
  pub is_kept : IsKeptNet d n mode net
  pub tells : TellsDesign d n mode net.nodes parts
  pub is_table : IsTable parts
