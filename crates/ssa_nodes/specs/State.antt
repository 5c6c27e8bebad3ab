-- What lowering has come to: nodes of signals and of the terms of blocks.
use Rattle.std.specs.Prelude.{◌≡◌, ℕ, ◌<◌, true, List, length, Option, Some, IsSome, slice_get}
use Rattle.bv_core.specs.declared.reference.NodeId.{NodeId}
use Rattle.tree_core.specs.Tree.{Tree, Leaf}
use Rattle.tree_core.specs.Width.{WellFormed}
use Rattle.exec_core.specs.Leaves.{EachLeaf}
use Rattle.exec_core.specs.Whole.{Place}
use Rattle.exec_core.specs.Design as exec
use Rattle.exec_core.specs.Design.{place, folded_tree}
use Rattle.exec_core.specs.States.{OverGivens}
use Rattle.net_core.specs.Nodes.{Shape, tree_of}
use Rattle.net_core.specs.Builder.{AreShared, Stands}
use Rattle.block_net.specs.Blocks.{BlockParts}
use Rattle.place_core.specs.Numbering.{Numbers, number_in}
use Rattle.term_net.specs.Leaves.{node_in}
use Rattle.term_net.specs.Growth.{AreNodes}
use Rattle.term_net.specs.Memos.{Fits}
use Rattle.ssa_core.specs.declared.process.ProcessKey.{ProcessKey}
use Rattle.ssa_core.specs.Processes.{terms_at}

-- the numbers of the names of an instance
abbrev pub names_in : List Numbers → ℕ → Numbers
names_in all i x = number_in all (place i x)

-- the node of a place, if it has one
abbrev pub node_of : List Numbers → List (Option NodeId) → Place → Option NodeId
node_of all nodes p = node_in nodes (number_in all p)

abbrev pub HasNode : List Numbers → List (Option NodeId) → Place → Type 0
HasNode all nodes p = IsSome (node_of all nodes p)

-- each node of a signal stands for its folded whole tree
pub record SignalsTold (d : exec.Design) (n : ℕ) (all : List Numbers) (ns : List Shape) (nodes : List (Option NodeId)) : Type 0 where
  pub told : (p : Place) (id : NodeId) → node_of all nodes p ≡ Some id → Stands ns id.0 (folded_tree d n (Leaf p))

-- the process of a key has nodes for terms of its block, over the names of its instance
pub record MemoFits (ns : List Shape) (all : List Numbers) (nodes : List (Option NodeId)) (memos : List (List (Option NodeId))) (k i : ℕ) (parts : BlockParts) : Type 0 where
  pub memo : List (Option NodeId)
  pub found : slice_get memos k ≡ Some memo
  pub fits : Fits ns (names_in all i) nodes parts.terms memo

-- each process
pub record MemosFit (keys : List ProcessKey) (blocks : List (List BlockParts)) (all : List Numbers) (ns : List Shape) (nodes : List (Option NodeId)) (memos : List (List (Option NodeId))) : Type 0 where
  pub each : (k : ℕ) (key : ProcessKey) (parts : BlockParts) → slice_get keys k ≡ Some key → terms_at blocks key.variant key.block ≡ Some parts → MemoFits ns all nodes memos k key.instance parts

-- every node's tree is over inputs of the top and registers
abbrev pub AllOverGivens : exec.Design → List Shape → Type 0
AllOverGivens d ns = (j : ℕ) → j < length ns → OverGivens d (tree_of ns j)

-- what lowering has come to
pub record IsState (d : exec.Design) (n : ℕ) (keys : List ProcessKey) (blocks : List (List BlockParts)) (all : List Numbers) (ns : List Shape) (nodes : List (Option NodeId)) (memos : List (List (Option NodeId))) : Type 0 where
  pub shared : AreShared ns
  pub placed : AreNodes ns nodes
  pub signals : SignalsTold d n all ns nodes
  pub terms : MemosFit keys blocks all ns nodes memos
  pub over : AllOverGivens d ns

-- a tree over signals that have nodes, whose widths fit
pub record IsReadyIn (d : exec.Design) (all : List Numbers) (nodes : List (Option NodeId)) (t : Tree Place) : Type 0 where
  pub formed : WellFormed (λ p. d.is_signal p ≡ true) d.width t
  pub known : EachLeaf (HasNode all nodes) t
