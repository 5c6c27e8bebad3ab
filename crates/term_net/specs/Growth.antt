-- What more nodes keep.
use Rattle.std.specs.Prelude.{◌≡◌, ℕ, ◌<◌, Bool, true, List, length, Option, Some}
use Rattle.bv_core.specs.declared.reference.NodeId.{NodeId}
use Rattle.tree_core.specs.Tree.{Origin}
use Rattle.exec_core.specs.Leaves.{EachLeaf}
use Rattle.net_core.specs.Nodes.{Shape, tree_of}
use Rattle.net_core.specs.Builder.{AreShared, Keeps}
use Rattle.term_net.specs.Leaves.{node_at}

-- each node's tree is over inputs and registers that pass a test
abbrev pub AreOver : (Origin → Bool) → List Shape → Type 0
AreOver p ns = (j : ℕ) → j < length ns → EachLeaf (λ o. p o ≡ true) (tree_of ns j)

-- more nodes of a builder: the ids of before stand for the same trees, and no tree is over inputs and registers that none of
-- before was over
pub record Grown (old new : List Shape) : Type 0 where
  pub shared : AreShared new
  pub keeps : Keeps old new
  pub over : (p : Origin → Bool) → AreOver p old → AreOver p new

-- each is a node of the builder
pub record AreNodes (ns : List Shape) (ids : List (Option NodeId)) : Type 0 where
  pub within : (k : ℕ) (id : NodeId) → node_at ids k ≡ Some id → id.0 < length ns

-- each node stays at its place
pub record Stay (old new : List (Option NodeId)) : Type 0 where
  pub same : (k : ℕ) (id : NodeId) → node_at old k ≡ Some id → node_at new k ≡ Some id
