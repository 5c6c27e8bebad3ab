-- What the rows of a block have at an instance, by nodes that stand for folded whole trees over the names of the instance.
use Rattle.std.specs.Prelude.{◌≡◌, ℕ, List, [], ◌∷◌, ◌++◌, Option, Some, None, Bool, bytes_eq, if◌then◌else◌}
use Rattle.bv_core.specs.declared.reference.NodeId.{NodeId}
use Rattle.tree_core.specs.Tree.{Tree, Whole}
use Rattle.exec_core.specs.Block.{Name, Now, Body}
use Rattle.exec_core.specs.Exec.{Env}
use Rattle.list_core.specs.Lists.{EachOf}
use Rattle.exec_core.specs.Shown.{shown_start}
use Rattle.exec_core.specs.Trees.{Row}
use Rattle.net_core.specs.Nodes.{Shape}
use Rattle.net_core.specs.Builder.{Stands}
use Rattle.block_net.specs.declared.key.Key.TheVariants as keys
use Rattle.block_net.specs.declared.effect.Effect.{Effect}
use Rattle.block_net.specs.declared.effect.Effect.TheVariants.{Set, Slot}
use Rattle.block_net.specs.declared.term.Term.{Term}
use Rattle.block_net.specs.declared.term.TermId.{TermId}
use Rattle.block_net.specs.Blocks.{BlockParts}
use Rattle.block_net.specs.Logs.{rows_of}
use Rattle.block_net.specs.Terms.{tree_for}
use Rattle.block_net.specs.Walks.{IsHeld, held}
use Rattle.term_net.specs.Leaves.{leaf_tree, whole_of, IsReady}
use Rattle.ssa_nodes.specs.Held.{CanHaveNode, NodeTold}
use Rattle.lower_core.specs.declared.row.FullRow.{FullRow}

-- the tree that each name has somewhere, if it has one
abbrev pub Names : Type 0
Names = Name → Option (Tree Name)

abbrev pub names_in : Env (Tree Name) → Names
names_in trees x = trees (Now x)

-- a row of a block, without what registers hold in the next cycle
pub record NameRow : Type 0 where
  pub slot : ℕ
  pub enable : Option (Tree Name)
  pub before : Names

abbrev pub name_row : Row → NameRow
name_row row = record { slot = row.slot; enable = row.enable; before = names_in row.before }

-- ---- the log of a block

-- a name has this from here on
abbrev pub set_name : Name → Option (Tree Name) → Names → Names
set_name x tree names = λ y. if bytes_eq x y then tree else names y

-- the row of a slot with this enable, where names have these trees
abbrev pub row_of_slot : List Term → ℕ → Option TermId → Names → NameRow
row_of_slot ns slot enable names = record { slot = slot; enable = tree_for ns enable; before = names }

-- what names have after an effect, and the row that it tells
abbrev pub after_step : List Term → Effect → Names → Names
after_step ns (Set (keys.Now x) id) names = set_name x (tree_for ns id) names
after_step ns (Set (keys.Next x) id) names = names
after_step ns (Slot slot enable) names = names

abbrev pub rows_of_step : List Term → Effect → Names → List NameRow
rows_of_step ns (Set key id) names = []
rows_of_step ns (Slot slot enable) names = row_of_slot ns slot enable names ∷ []

abbrev pub name_rows : List Term → List Effect → Names → List NameRow
name_rows ns [] names = []
name_rows ns (effect ∷ log) names = rows_of_step ns effect names ++ name_rows ns log (after_step ns effect names)

-- what names have, by a map
abbrev pub names_by : List Term → (Name → Option (Option TermId)) → Names
names_by ns ids x = held ns x (ids x)

-- before the first statement: own names have nothing
abbrev pub no_own : (Name → Bool) → Name → Option (Option TermId)
no_own own x = if own x then Some None else None

abbrev pub AreHeld : List Term → (Name → Option (Option TermId)) → Type 0
AreHeld ns ids = (x : Name) → IsHeld ns (ids x)

-- the rows that the log of a block tells, where its own names have nothing at first
abbrev pub log_rows : BlockParts → Body → List Row
log_rows parts body = rows_of parts.terms parts.log (shown_start body)

-- ---- rows that can have nodes

pub record EnableReady (ids : Name → Option NodeId) (leaves : Name → Whole) (enable : Option (Tree Name)) : Type 0 where
  pub tree : Tree Name
  pub is : enable ≡ Some tree
  pub ready : IsReady ids leaves tree

pub record RowReady (ids : Name → Option NodeId) (leaves : Name → Whole) (names : List Name) (row : NameRow) : Type 0 where
  pub enable : EnableReady ids leaves row.enable
  pub cells : EachOf (λ x. CanHaveNode ids leaves (row.before x)) names

-- ---- rows with nodes

-- the node of each name, in order; none where it has no tree
abbrev pub CellsHave : List Shape → (Name → Whole) → Names → List Name → List (Option NodeId) → Type 0
CellsHave ns leaves trees [] [] = Unit {0}
CellsHave ns leaves trees [] (cell ∷ cells) = ⊥
CellsHave ns leaves trees (x ∷ names) [] = ⊥
CellsHave ns leaves trees (x ∷ names) (cell ∷ cells) = NodeTold ns leaves (trees x) cell × CellsHave ns leaves trees names cells

-- the node of an enable
pub record EnableHas (ns : List Shape) (leaves : Name → Whole) (enable : Option (Tree Name)) (on : NodeId) : Type 0 where
  pub tree : Tree Name
  pub is : enable ≡ Some tree
  pub stands : Stands ns on.0 (whole_of leaves tree)

pub record RowHas (ns : List Shape) (leaves : Name → Whole) (i : ℕ) (names : List Name) (row : NameRow) (full : FullRow) : Type 0 where
  pub slot : full.slot ≡ row.slot
  pub instance : full.instance ≡ i
  pub on : EnableHas ns leaves row.enable full.on
  pub cells : CellsHave ns leaves row.before names full.cells

-- one for each row, in order
abbrev pub RowsHave : List Shape → (Name → Whole) → ℕ → List Name → List NameRow → List FullRow → Type 0
RowsHave ns leaves i names [] [] = Unit {0}
RowsHave ns leaves i names [] (full ∷ fulls) = ⊥
RowsHave ns leaves i names (row ∷ rows) [] = ⊥
RowsHave ns leaves i names (row ∷ rows) (full ∷ fulls) = RowHas ns leaves i names row full × RowsHave ns leaves i names rows fulls

-- ---- lists that grow

-- of all rows these are left, and those before them have nodes
pub record Replayed (ns : List Shape) (leaves : Name → Whole) (i : ℕ) (names : List Name) (all left : List NameRow) (fulls : List FullRow) : Type 0 where
  pub done : List NameRow
  pub split : done ++ left ≡ all
  pub have : RowsHave ns leaves i names done fulls

-- cells for these names more, where the builder grows
abbrev pub CellsPut : List Shape → List Shape → (Name → Option ℕ) → List (Option NodeId) → Names → List Name → List (Option NodeId) → List (Option NodeId) → Type 0
CellsPut old new places nodes trees names cells after =
    (before : List Name) → CellsHave old (leaf_tree old places nodes) trees before cells → CellsHave new (leaf_tree new places nodes) trees (before ++ names) after

-- rows for these more
abbrev pub RowsPut : List Shape → List Shape → (Name → Option ℕ) → List (Option NodeId) → ℕ → List Name → List NameRow → List FullRow → List FullRow → Type 0
RowsPut old new places nodes i names rows fulls after =
    (before : List NameRow) → RowsHave old (leaf_tree old places nodes) i names before fulls → RowsHave new (leaf_tree new places nodes) i names (before ++ rows) after
