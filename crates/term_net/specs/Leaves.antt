-- Trees over the names of an instance, where some of its names have nodes.
use Rattle.std.specs.Prelude.{ℕ, List, Option, Some, None, IsSome, slice_index_or}
use Rattle.bv_core.specs.declared.reference.NodeId.{NodeId}
use Rattle.tree_core.specs.Tree.{Tree, Const, Whole}
use Rattle.tree_core.specs.Width.{WellFormed, tree_width}
use Rattle.tree_core.specs.Fold.{folded}
use Rattle.exec_core.specs.Block.{Name}
use Rattle.exec_core.specs.Leaves.{replace}
use Rattle.net_core.specs.Nodes.{Shape, tree_of}
use Rattle.block_net.specs.declared.term.Term.{Term}
use Rattle.block_net.specs.Terms.{tree_at, trees_of}

-- the node at a place, if there is one
abbrev pub node_at : List (Option NodeId) → ℕ → Option NodeId
node_at nodes k = slice_index_or nodes k None

-- the node of a name that has this place, if it has one
abbrev pub node_in : List (Option NodeId) → Option ℕ → Option NodeId
node_in nodes None = None
node_in nodes (Some k) = node_at nodes k

-- the node at the place of a name
abbrev pub leaf_id : (Name → Option ℕ) → List (Option NodeId) → Name → Option NodeId
leaf_id places nodes x = node_in nodes (places x)

-- the tree that a node stands for; any tree where there is no node
abbrev pub tree_for : List Shape → Option NodeId → Whole
tree_for ns None = Const (record { width = 1; value = 0 })
tree_for ns (Some id) = tree_of ns id.0

-- the tree of a name
abbrev pub leaf_tree : List Shape → (Name → Option ℕ) → List (Option NodeId) → Name → Whole
leaf_tree ns places nodes x = tree_for ns (leaf_id places nodes x)

-- a tree over names that have these trees, as a whole tree, folded
unfoldable pub whole_of : (Name → Whole) → Tree Name → Whole
whole_of leaves t = folded (replace leaves t)

-- the folded whole tree of a term
abbrev pub term_whole : (Name → Whole) → List Term → ℕ → Whole
term_whole leaves terms k = whole_of leaves (tree_at (trees_of terms) k)

-- a tree whose widths fit, over names that have nodes
abbrev pub IsReady : (Name → Option NodeId) → (Name → Whole) → Tree Name → Type 0
IsReady ids leaves t = WellFormed (λ x. IsSome (ids x)) (λ x. tree_width (leaves x)) t
