-- Trees over the names of an instance whose signals have nodes: their nodes stand for folded whole trees of the design.
use Rattle.std.proofs.Common.{◌≡◌, ℕ, true, List, Option, Some, None, IsSome, refl, sym, ap, ap₂, ◌∙◌, subst}
use Rattle.bv_core.specs.declared.reference.NodeId.{NodeId}
use Rattle.bv_core.specs.Operators.{Fits1, Fits2, width1_of, width2_of}
use Rattle.tree_core.specs.Tree.{Tree, Const, Leaf, One, Two, Mux, Whole}
use Rattle.tree_core.specs.Width.{width_of, WellFormed, tree_width, origin_width}
use Rattle.tree_core.specs.Fold.{folded, fold1, fold2, fold3, same_origin}
use Rattle.exec_core.specs.Block.{Name}
use Rattle.exec_core.specs.Leaves.{replace, EachLeaf}
use Rattle.exec_core.specs.Design as exec
use Rattle.exec_core.specs.Design.{place, moved, folded_tree}
use Rattle.exec_core.specs.States.{NodeByNode}
use Rattle.net_core.specs.Nodes.{Shape}
use Rattle.net_core.specs.Builder.{AreShared}
use Rattle.place_core.specs.Numbering.{Numbers}
use Rattle.term_net.specs.Leaves.{leaf_id, leaf_tree, tree_for, whole_of, IsReady}
use Rattle.term_net.proofs.Wholes.{node_folded}
use Rattle.ssa_nodes.specs.State.{names_in, HasNode, SignalsTold}

module _ (d : exec.Design) (n : ℕ) (by : NodeByNode d n) (all : List Numbers) (ns : List Shape) (nodes : List (Option NodeId)) (shared : AreShared ns) (told : SignalsTold d n all ns nodes) (i : ℕ) where
  abbrev ids : Name → Option NodeId
  ids = leaf_id (names_in all i) nodes

  abbrev leaves : Name → Whole
  leaves = leaf_tree ns (names_in all i) nodes

  -- a name with a node has the folded whole tree of its place, folded already
  leaf_is : (x : Name) → IsSome (ids x) → (leaves x ≡ folded_tree d n (Leaf (place i x))) × (folded (leaves x) ≡ folded_tree d n (Leaf (place i x)))
  leaf_is x has = by_id (ids x) refl has
    where
      by_id : (o : Option NodeId) → ids x ≡ o → IsSome o → (leaves x ≡ folded_tree d n (Leaf (place i x))) × (folded (leaves x) ≡ folded_tree d n (Leaf (place i x)))
      by_id None e h = cc
      by_id (Some id) e h =
          let s = told.told (place i x) id e in
          let is : leaves x ≡ folded_tree d n (Leaf (place i x)) = ap (tree_for ns) e ∙ s.tree in
          (is, ap folded (ap (tree_for ns) e) ∙ node_folded ns shared id.0 s.within ∙ s.tree)

  pub folds_to : (t : Tree Name) → EachLeaf (HasNode all nodes) (moved i t) → whole_of leaves t ≡ folded_tree d n (moved i t)
  unfolding whole_of
  folds_to (Const b) h = sym (by.constant b)
  folds_to (Leaf x) h = (leaf_is x h).1
  folds_to (One op a) h = ap (fold1 origin_width op) (folds_to a h) ∙ sym (by.one op (moved i a))
  folds_to (Two op a b) h = ap₂ (fold2 op) (folds_to a h.0) (folds_to b h.1) ∙ sym (by.two op (moved i a) (moved i b))
  folds_to (Mux c a b) h =
      ap (λ u. fold3 same_origin u (folded (replace leaves a)) (folded (replace leaves b))) (folds_to c h.0)
      ∙ ap₂ (fold3 same_origin (folded_tree d n (moved i c))) (folds_to a h.1) (folds_to b h.2) ∙ sym (by.mux (moved i c) (moved i a) (moved i b))

  pub ready_from : (t : Tree Name) → WellFormed (λ p. d.is_signal p ≡ true) d.width (moved i t) → EachLeaf (HasNode all nodes) (moved i t) →
      IsReady ids leaves t × (width_of (λ x. tree_width (leaves x)) t ≡ width_of d.width (moved i t))
  ready_from (Const b) w h = (w, refl)
  ready_from (Leaf x) w h = (h, ap tree_width (leaf_is x h).0 ∙ (by.fits (Leaf (place i x)) w).1)
  ready_from (One op a) w h =
      let p = ready_from a w.0 h in
      ((p.0, subst (Fits1 op) (sym p.1) w.1), ap (width1_of op) p.1)
  ready_from (Two op a b) w h =
      let p = ready_from a w.0 h.0 in
      let q = ready_from b w.1 h.1 in
      ((p.0, q.0, subst (λ x. Fits2 op (width_of (λ x. tree_width (leaves x)) a) x) (sym q.1) (subst (λ x. Fits2 op x (width_of d.width (moved i b))) (sym p.1) w.2)), ap₂ (width2_of op) p.1 q.1)
  ready_from (Mux c a b) w h =
      let p = ready_from c w.0 h.0 in
      let q = ready_from a w.1 h.1 in
      let r = ready_from b w.2 h.2 in
      ((p.0, q.0, r.0, (p.1 ∙ w.3.0, q.1 ∙ w.3.1 ∙ sym r.1)), q.1)
