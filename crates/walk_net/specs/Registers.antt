-- The walk over the next values of registers.
use Rattle.std.specs.Prelude.{◌≡◌, ℕ, ◌+◌, ◌≤◌, ◌<◌, List, [], ◌∷◌, length, Option, Some, None, option_map, slice_set}
use Rattle.bv_core.specs.declared.reference.NodeId.{NodeId}
use Rattle.tree_core.specs.Tree.{Origin, Whole}
use Rattle.exec_core.specs.Kept.{walk}
use Rattle.net_core.specs.Nodes.{tree_at, tree_of}
use Rattle.net_core.specs.Nets.{NetParts}
use Rattle.walk_net.specs.Next.{tree_by, next_whole, next_tree}
use Rattle.walk_net.specs.Renaming.{id_at}

-- what numbered trees come to: from a number on, the next-value tree of each register is walked
pub data Ends (next : Origin → Option Whole) : ℕ → List Whole → List Whole → Type 0 where
  ended : (k : ℕ) (ts : List Whole) → length ts ≤ k → Ends next k ts ts
  passed : (k : ℕ) (ts us : List Whole) → k < length ts → next_tree next (tree_at ts k) ≡ None → Ends next (k + 1) ts us → Ends next k ts us
  walked : (k : ℕ) (ts us : List Whole) (t : Whole) → k < length ts → next_tree next (tree_at ts k) ≡ Some t → Ends next (k + 1) (walk t ts) us → Ends next k ts us

-- the trees after the walk of a next-value tree, if there is one
abbrev pub followed : Option Whole → List Whole → List Whole
followed None ts = ts
followed (Some t) ts = walk t ts

-- each register's node with the node of its next value
abbrev pub with_nexts : List (Option NodeId) → List (NodeId × NodeId) → List (Option NodeId)
with_nexts ids [] = ids
with_nexts ids (pair ∷ pairs) = with_nexts (slice_set ids pair.0.0 (Some pair.1)) pairs

-- a place for the first of two
abbrev pub HasPlace : ℕ → NodeId × NodeId → Type 0
HasPlace count pair = pair.0.0 < count

-- for each node, that of its next value, if it is a register
pub record AreNextIds (net : NetParts) (ids : List (Option NodeId)) : Type 0 where
  pub long : length ids ≡ length net.nodes
  pub within : (j : ℕ) (id : NodeId) → id_at ids j ≡ Some id → id.0 < length net.nodes
  pub next : (j : ℕ) → j < length net.nodes → option_map (tree_by net.nodes) (id_at ids j) ≡ next_tree (next_whole net) (tree_of net.nodes j)
