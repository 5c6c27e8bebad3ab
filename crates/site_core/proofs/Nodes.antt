-- What is known of the nodes of an expression.
use Rattle.std.proofs.Common.{◌≡◌, ℕ, ◌<◌, Option, Some, None, sym}
use Rattle.bv_core.specs.declared.NodeId.{NodeId}
use Rattle.bv_core.specs.declared.Ref.{Ref}
use Rattle.bv_core.specs.declared.Ref.TheVariants as ref
use Rattle.bv_core.specs.declared.Sample.{Sample}
use Rattle.bv_core.specs.declared.Sample.TheVariants.{Known, Unknown}
use Rattle.tree_core.specs.Tree.{Tree, Const, Leaf, One, Two, Mux}
use Rattle.trace_core.specs.Samples.{Samples}
use Rattle.cond_lang.specs.Bound.{EachNode, HasWidth}
use Rattle.site_core.specs.Sampled.{cycle_samples, IsSet, IsValue, IsNodeOf}

-- what follows of each node holds of those of a tree
pub each_weaker : (P Q : NodeId → ℕ → Type 0) → ((n : NodeId) (w : ℕ) → P n w → Q n w) → (t : Tree Ref) → EachNode P t → EachNode Q t
each_weaker P Q h (Const b) e = tt
each_weaker P Q h (Leaf (ref.Node n w)) e = h n w e
each_weaker P Q h (Leaf (ref.Const b)) e = tt
each_weaker P Q h (One o a) e = each_weaker P Q h a e
each_weaker P Q h (Two o a b) e = (each_weaker P Q h a e.0, each_weaker P Q h b e.1)
each_weaker P Q h (Mux c a b) e = (each_weaker P Q h c e.0, each_weaker P Q h a e.1, each_weaker P Q h b e.2)

-- a sample of a node in a cycle that there is has the node's width
pub wide : (s : Samples) (cursor : Option ℕ) (node : NodeId) (w : ℕ) (found : Sample) → IsSet s cursor → IsNodeOf s node w
    → found ≡ cycle_samples s cursor node.0 → IsValue found → HasWidth w found
wide s None node w found set h e v = absurd set
wide s (Some t) node w (Known b) set h e v = record { width = h.widths t set b (sym e); bits = v }
wide s (Some t) node w Unknown set h e v = tt

-- the nodes of an expression that can be evaluated may be asked for, and what is found of them has their width
pub each_asked_for : (s : Samples) (Q : NodeId → ℕ → Type 0) (tree : Tree Ref) → EachNode (IsNodeOf s) tree → ((n : NodeId) (w : ℕ) → n.0 < s.nodes → Q n w) → EachNode Q tree
each_asked_for s Q tree own ask = each_weaker (IsNodeOf s) Q (λ n w h. ask n w h.within) tree own

pub each_has_width : (s : Samples) (cursor : Option ℕ) (R : NodeId → Sample → Type 0) (tree : Tree Ref) → EachNode (IsNodeOf s) tree → IsSet s cursor
    → ((n : NodeId) (found : Sample) → R n found → (found ≡ cycle_samples s cursor n.0) × IsValue found)
    → EachNode (λ n w. (found : Sample) → R n found → HasWidth w found) tree
each_has_width s cursor R tree own set tells =
    each_weaker (IsNodeOf s) (λ n w. (found : Sample) → R n found → HasWidth w found)
    (λ n w h found r. wide s cursor n w found set h (tells n found r).0 (tells n found r).1) tree own
