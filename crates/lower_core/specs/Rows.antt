-- What the rows of a lowered design tell: the enables of statements and what names are before them, as nodes of a net.
use Rattle.std.specs.Prelude.{◌≡◌, ℕ, List, [], ◌∷◌, Option, Some, None}
use Rattle.bv_core.specs.declared.reference.NodeId.{NodeId}
use Rattle.tree_core.specs.Tree.{Tree}
use Rattle.exec_core.specs.Block.{Name, Now}
use Rattle.exec_core.specs.Trees.{Row, block_rows, row_at}
use Rattle.exec_core.specs.Design.{moved, folded_tree}
use Rattle.design_core.specs.Design.{Design}
use Rattle.design_exec.specs.Processes.{processes_of}
use Rattle.net_core.specs.Nodes.{Shape}
use Rattle.net_core.specs.Builder.{Stands}
use Rattle.world_core.specs.Sites.{Site, Spot, site_body}
use Rattle.lower_core.specs.declared.row.FullRow.{FullRow}

-- a node stands for the folded whole tree of a tree over the names of an instance
abbrev pub StandsIn : Design → ℕ → List Shape → ℕ → Tree Name → NodeId → Type 0
StandsIn d n nodes i t id = Stands nodes id.0 (folded_tree (processes_of d) n (moved i t))

-- none where there is no tree
abbrev pub CellTold : Design → ℕ → List Shape → ℕ → Option (Tree Name) → Option NodeId → Type 0
CellTold d n nodes i None None = Unit {0}
CellTold d n nodes i None (Some id) = ⊥
CellTold d n nodes i (Some t) None = ⊥
CellTold d n nodes i (Some t) (Some id) = StandsIn d n nodes i t id

-- a cell for each name, in order
abbrev pub CellsTold : Design → ℕ → List Shape → ℕ → Row → List Name → List (Option NodeId) → Type 0
CellsTold d n nodes i row [] [] = Unit {0}
CellsTold d n nodes i row [] (cell ∷ cells) = ⊥
CellsTold d n nodes i row (x ∷ names) [] = ⊥
CellsTold d n nodes i row (x ∷ names) (cell ∷ cells) = CellTold d n nodes i (row.before (Now x)) cell × CellsTold d n nodes i row names cells

-- the enable has a tree, for which its node stands
pub record EnableTold (d : Design) (n : ℕ) (nodes : List Shape) (i : ℕ) (row : Row) (on : NodeId) : Type 0 where
  pub tree : Tree Name
  pub is : row.enable ≡ Some tree
  pub stands : StandsIn d n nodes i tree on

-- a row of an instance at a statement: what the block's row of the slot has, by nodes
pub record RowTold (d : Design) (n : ℕ) (nodes : List Shape) (site : Site) (i : ℕ) (full : FullRow) : Type 0 where
  pub slot : full.slot ≡ site.slot
  pub instance : full.instance ≡ i
  pub row : Row
  pub is : row_at site.slot (block_rows site.widths (site_body site)) ≡ Some row
  pub on : EnableTold d n nodes i row full.on
  pub cells : CellsTold d n nodes i row site.names full.cells

-- a row for each statement, in the order of slots, and each instance of its variant, in preorder
abbrev pub AreTold : Design → ℕ → List Shape → List Spot → List FullRow → Type 0
AreTold d n nodes [] [] = Unit {0}
AreTold d n nodes [] (row ∷ rows) = ⊥
AreTold d n nodes (spot ∷ spots) [] = ⊥
AreTold d n nodes (spot ∷ spots) (row ∷ rows) = RowTold d n nodes spot.0 spot.1 row × AreTold d n nodes spots rows
