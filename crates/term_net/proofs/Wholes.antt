-- The folded whole trees of trees over names that have nodes.
use Rattle.std.proofs.Common.{◌≡◌, ℕ, ◌<◌, List, length, Option, Some, None, IsSome, refl, sym, ap, ap₂, ◌∙◌, subst, arith}
use Rattle.bv_core.specs.Value.{Bits}
use Rattle.bv_core.specs.Operators.{Fits1, Fits2, FitsMux}
use Rattle.bv_core.specs.declared.operators.Op1.{Op1}
use Rattle.bv_core.specs.declared.operators.Op2.{Op2}
use Rattle.bv_core.specs.declared.reference.NodeId.{NodeId}
use Rattle.tree_core.specs.Tree.{Tree, Const, Leaf, One, Two, Mux, Whole}
use Rattle.tree_core.specs.Width.{width_of, tree_width, IsWhole, IsOrigin, origin_width}
use Rattle.tree_core.specs.Fold.{folded}
use Rattle.tree_core.specs.Sample.{at_start}
use Rattle.tree_core.proofs.Samples.{some_given}
use Rattle.tree_core.proofs.Folding.{folding_kept}
use Rattle.tree_core.proofs.Once.{folds_in_parts}
use Rattle.exec_core.specs.Block.{Name}
use Rattle.exec_core.specs.Leaves.{replace}
use Rattle.exec_core.proofs.Moving.{Fits, replace_fits}
use Rattle.net_core.specs.Nodes.{Shape, tree_of, width_at}
use Rattle.net_core.specs.Builder.{AreShared, Stands}
use Rattle.net_core.proofs.TreeLists.{trees_length}
use Rattle.term_net.specs.Leaves.{leaf_id, leaf_tree, tree_for, node_in, whole_of, IsReady}
use Rattle.term_net.specs.Growth.{AreNodes}

-- ---- a builder's nodes

module _ (ns : List Shape) (g : AreShared ns) (i : ℕ) (l : i < length ns) where
  pub node_whole : IsWhole (tree_of ns i)
  node_whole = g.trees.whole i (omega (arith, trees_length ns))

  pub node_folded : folded (tree_of ns i) ≡ tree_of ns i
  node_folded = g.trees.folded_already i (omega (arith, trees_length ns))

-- ---- the whole tree of an operator is folded from those of its operands

module _ (leaves : Name → Whole) where
  pub whole_constant : (b : Bits) → whole_of leaves (Const b) ≡ Const b
  unfolding whole_of
  whole_constant b = refl

  pub whole_leaf : (x : Name) → whole_of leaves (Leaf x) ≡ folded (leaves x)
  unfolding whole_of
  whole_leaf x = refl

  pub whole_one : (op : Op1) (a : Tree Name) → whole_of leaves (One op a) ≡ folded (One op (whole_of leaves a))
  unfolding whole_of
  whole_one op a = sym (folds_in_parts.one op (replace leaves a))

  pub whole_two : (op : Op2) (a b : Tree Name) → whole_of leaves (Two op a b) ≡ folded (Two op (whole_of leaves a) (whole_of leaves b))
  unfolding whole_of
  whole_two op a b = sym (folds_in_parts.two op (replace leaves a) (replace leaves b))

  pub whole_mux : (c a b : Tree Name) → whole_of leaves (Mux c a b) ≡ folded (Mux (whole_of leaves c) (whole_of leaves a) (whole_of leaves b))
  unfolding whole_of
  whole_mux c a b = sym (folds_in_parts.mux (replace leaves c) (replace leaves a) (replace leaves b))

-- an operator on nodes that stand for whole trees
module _ (ns new : List Shape) (leaves : Name → Whole) where
  pub stands_as : (id : ℕ) (t u : Whole) → t ≡ u → Stands new id t → Stands new id u
  stands_as id t u e s = record { within = s.within; tree = s.tree ∙ e }

  pub stands_one : (op : Op1) (a : ℕ) (s : Tree Name) (id : ℕ) → Stands ns a (whole_of leaves s) → Stands new id (folded (One op (tree_of ns a))) → Stands new id (whole_of leaves (One op s))
  stands_one op a s id p q =
      stands_as id _ _ (ap (λ t. folded (One op t)) p.tree ∙ sym (whole_one leaves op s)) q

  pub stands_two : (op : Op2) (a b : ℕ) (s t : Tree Name) (id : ℕ) → Stands ns a (whole_of leaves s) → Stands ns b (whole_of leaves t) → Stands new id (folded (Two op (tree_of ns a) (tree_of ns b))) → Stands new id (whole_of leaves (Two op s t))
  stands_two op a b s t id p q r =
      stands_as id _ _ (ap₂ (λ x y. folded (Two op x y)) p.tree q.tree ∙ sym (whole_two leaves op s t)) r

  pub stands_mux : (c a b : ℕ) (r s t : Tree Name) (id : ℕ) → Stands ns c (whole_of leaves r) → Stands ns a (whole_of leaves s) → Stands ns b (whole_of leaves t) → Stands new id (folded (Mux (tree_of ns c) (tree_of ns a) (tree_of ns b))) → Stands new id (whole_of leaves (Mux r s t))
  stands_mux c a b r s t id o p q h =
      stands_as id _ _ ((λ i. folded (Mux (o.tree i) (p.tree i) (q.tree i))) ∙ sym (whole_mux leaves r s t)) h

-- ---- names with nodes

-- which node a name has
pub tree_for_is : (ns : List Shape) (o : Option NodeId) (id : NodeId) → o ≡ Some id → tree_for ns o ≡ tree_of ns id.0
tree_for_is ns o id e = ap (tree_for ns) e

-- it is one of the nodes
pub leaf_within : (ns : List Shape) (nodes : List (Option NodeId)) → AreNodes ns nodes → (p : Option ℕ) (id : NodeId) → node_in nodes p ≡ Some id → id.0 < length ns
leaf_within ns nodes n None id e = cc
leaf_within ns nodes n (Some k) id e = n.within k id e

pub some_of : (o : Option NodeId) → IsSome o → (id : NodeId) × (o ≡ Some id)
some_of None h = cc
some_of (Some id) h = (id, refl)

module _ (ns : List Shape) (places : Name → Option ℕ) (nodes : List (Option NodeId)) (g : AreShared ns) (n : AreNodes ns nodes) where
  abbrev pub leaves : Name → Whole
  leaves = leaf_tree ns places nodes

  abbrev pub Ready : Tree Name → Type 0
  Ready t = IsReady (leaf_id places nodes) leaves t

  -- the tree of a name that has a node
  leaf_fits : (x : Name) → IsSome (leaf_id places nodes x) → Fits IsOrigin origin_width (tree_width (leaves x)) (leaves x)
  leaf_fits x h =
      let s = some_of (leaf_id places nodes x) h in
      let within = leaf_within ns nodes n (places x) s.0 s.1 in
      (subst IsWhole (sym (tree_for_is ns (leaf_id places nodes x) s.0 s.1)) (node_whole ns g s.0.0 within), refl)

  pub stands_leaf : (x : Name) (id : NodeId) → leaf_id places nodes x ≡ Some id → Stands ns id.0 (whole_of leaves (Leaf x))
  stands_leaf x id e =
      let within = leaf_within ns nodes n (places x) id e in
      record {
        within = within;
        tree = sym (whole_leaf leaves x ∙ ap folded (tree_for_is ns (leaf_id places nodes x) id e) ∙ node_folded ns g id.0 within);
      }

  -- a ready tree's folded whole tree has its width
  pub ready_width : (t : Tree Name) → Ready t → tree_width (whole_of leaves t) ≡ width_of (λ x. tree_width (leaves x)) t
  unfolding whole_of
  ready_width t h =
      let f = replace_fits (λ x. IsSome (leaf_id places nodes x)) (λ x. tree_width (leaves x)) IsOrigin origin_width leaves leaf_fits t h in
      (folding_kept at_start some_given (replace leaves t) f.0).width ∙ f.1

  -- and so has a node that stands for it
  pub node_width : (i : ℕ) (t : Tree Name) → Ready t → Stands ns i (whole_of leaves t) → width_at ns i ≡ width_of (λ x. tree_width (leaves x)) t
  node_width i t h s = ap tree_width s.tree ∙ ready_width t h

  pub fits_one : (op : Op1) (t : Tree Name) (a : ℕ) → Ready (One op t) → Stands ns a (whole_of leaves t) → Fits1 op (width_at ns a)
  fits_one op t a h s = subst (Fits1 op) (sym (node_width a t h.0 s)) h.1

  pub fits_two : (op : Op2) (t u : Tree Name) (a b : ℕ) → Ready (Two op t u) → Stands ns a (whole_of leaves t) → Stands ns b (whole_of leaves u) → Fits2 op (width_at ns a) (width_at ns b)
  fits_two op t u a b h p q =
      subst (λ w. Fits2 op w (width_at ns b)) (sym (node_width a t h.0 p))
      (subst (Fits2 op (width_of (λ x. tree_width (leaves x)) t)) (sym (node_width b u h.1 q)) h.2)

  pub fits_mux : (r t u : Tree Name) (c a b : ℕ) → Ready (Mux r t u) → Stands ns c (whole_of leaves r) → Stands ns a (whole_of leaves t) → Stands ns b (whole_of leaves u) → FitsMux (width_at ns c) (width_at ns a) (width_at ns b)
  fits_mux r t u c a b h o p q = (node_width c r h.0 o ∙ h.3.0, node_width a t h.1 p ∙ h.3.1 ∙ sym (node_width b u h.2 q))
