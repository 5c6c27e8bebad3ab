-- The node of a name that is a signal.
use Rattle.std.proofs.Common.{◌≡◌, ◌<◌, ℕ, List, Option, Some, None, IsSome, length, sym, ap, ◌∙◌, subst}
use Rattle.bv_core.specs.declared.reference.NodeId.{NodeId}
use Rattle.tree_core.specs.Tree.{Leaf}
use Rattle.tree_core.specs.Fold.{folded}
use Rattle.exec_core.specs.Block.{Name}
use Rattle.net_core.specs.Nodes.{Shape, tree_of}
use Rattle.net_core.specs.Builder.{AreShared}
use Rattle.block_net.specs.declared.term.Term.{Term}
use Rattle.block_net.specs.declared.term.TermId.{TermId}
use Rattle.block_net.specs.Walks.{held}
use Rattle.term_net.specs.Growth.{AreNodes}
use Rattle.term_net.specs.Leaves.{node_in, leaf_id, leaf_tree, tree_for}
use Rattle.term_net.proofs.Wholes.{node_folded, whole_leaf}
use Rattle.ssa_nodes.specs.Held.{CanHaveNode, NodeTold}

leaf_within : (ns : List Shape) (nodes : List (Option NodeId)) (place : Option ℕ) (id : NodeId) → AreNodes ns nodes → node_in nodes place ≡ Some id → id.0 < length ns
leaf_within ns nodes None id are e = cc
leaf_within ns nodes (Some k) id are e = are.within k id e

leaf_told : (ns : List Shape) (places : Name → Option ℕ) (nodes : List (Option NodeId)) (x : Name) (o : Option NodeId) → AreShared ns → AreNodes ns nodes → o ≡ leaf_id places nodes x → IsSome (leaf_id places nodes x) →
    NodeTold ns (leaf_tree ns places nodes) (Some (Leaf x)) o
leaf_told ns places nodes x None shared are e has = let h : IsSome {T = NodeId} None = subst IsSome (sym e) has in cc
leaf_told ns places nodes x (Some id) shared are e has =
    let within : id.0 < length ns = leaf_within ns nodes (places x) id are (sym e) in
    let is : leaf_tree ns places nodes x ≡ tree_of ns id.0 = ap (tree_for ns) (sym e) in
    record { within = within; tree = sym (whole_leaf (leaf_tree ns places nodes) x ∙ ap folded is ∙ node_folded ns shared id.0 within) }

pub held_leaf : (ns : List Shape) (places : Name → Option ℕ) (nodes : List (Option NodeId)) (terms : List Term) (x : Name) (h : Option (Option TermId)) (o : Option NodeId) → AreShared ns → AreNodes ns nodes → h ≡ None →
    o ≡ leaf_id places nodes x → CanHaveNode (leaf_id places nodes) (leaf_tree ns places nodes) (held terms x h) → NodeTold ns (leaf_tree ns places nodes) (held terms x h) o
held_leaf ns places nodes terms x None o shared are none e can = leaf_told ns places nodes x o shared are e can
held_leaf ns places nodes terms x (Some id) o shared are none e can = cc
