-- Nodes of terms, as far as they are known.
use Rattle.std.specs.Prelude.{◌≡◌, ℕ, List, length, Option, Some}
use Rattle.bv_core.specs.declared.reference.NodeId.{NodeId}
use Rattle.exec_core.specs.Block.{Name}
use Rattle.net_core.specs.Nodes.{Shape}
use Rattle.net_core.specs.Builder.{AreShared, Stands}
use Rattle.block_net.specs.declared.term.Term.{Term}
use Rattle.block_net.specs.Terms.{tree_at, trees_of}
use Rattle.term_net.specs.Leaves.{node_at, leaf_id, leaf_tree, term_whole, IsReady}
use Rattle.term_net.specs.Growth.{AreNodes}

-- the nodes of a builder, those at the places of names, and those of the terms that are known: each stands for the folded whole
-- tree of its term, all of whose names have nodes
pub record Fits (ns : List Shape) (places : Name → Option ℕ) (nodes : List (Option NodeId)) (terms : List Term) (memo : List (Option NodeId)) : Type 0 where
  pub shared : AreShared ns
  pub leaves : AreNodes ns nodes
  pub each : length memo ≡ length terms
  pub ready : (k : ℕ) (id : NodeId) → node_at memo k ≡ Some id → IsReady (leaf_id places nodes) (leaf_tree ns places nodes) (tree_at (trees_of terms) k)
  pub stands : (k : ℕ) (id : NodeId) → node_at memo k ≡ Some id → Stands ns id.0 (term_whole (leaf_tree ns places nodes) terms k)
