-- What is known of terms as more names have nodes; and where nothing is known yet.
use Rattle.std.proofs.Common.{◌≡◌, ◌≢◌, ℕ, zero, suc, ◌<◌, List, length, set, replicate, Option, Some, None, IsSome, ⊎_elim, refl, sym, ap, ap₂, ◌∙◌, subst}
use Rattle.std.proofs.lemmas.List.{get_or-set_same, get_or-set_other, length-replicate}
use Rattle.std.proofs.lemmas.Bool.{cases_eq}
use Rattle.bv_core.specs.Operators.{Fits1, Fits2, width1_of, width2_of}
use Rattle.bv_core.specs.declared.reference.NodeId.{NodeId}
use Rattle.tree_core.specs.Tree.{Tree, Const, Leaf, One, Two, Mux, Whole}
use Rattle.tree_core.specs.Width.{WellFormed, width_of, tree_width}
use Rattle.tree_core.specs.Fold.{folded}
use Rattle.tree_core.proofs.Once.{folds_in_parts}
use Rattle.exec_core.specs.Block.{Name}
use Rattle.exec_core.specs.Leaves.{replace, EachLeaf}
use Rattle.exec_core.proofs.Moving.{good_leaves}
use Rattle.exec_core.proofs.Wholes.{each_leaf}
use Rattle.net_core.specs.Nodes.{Shape}
use Rattle.net_core.specs.Builder.{AreShared, Stands}
use Rattle.block_net.specs.declared.term.Term.{Term}
use Rattle.term_net.specs.Leaves.{leaf_id, leaf_tree, tree_for, node_in, node_at, whole_of, IsReady}
use Rattle.term_net.specs.Growth.{AreNodes, Stay}
use Rattle.term_net.specs.Memos.{Fits}
use Rattle.term_net.proofs.Wholes.{whole_constant, whole_leaf, whole_one, whole_two, whole_mux, some_of}

-- ---- the folded whole tree of a tree, by those of its leaves

module _ (leaves f : Name → Whole) where
  -- where the tree of each leaf is another one, folded, the whole tree is the tree with those others in it, folded
  pub whole_as : (t : Tree Name) → EachLeaf (λ x. folded (leaves x) ≡ folded (f x)) t → whole_of leaves t ≡ folded (replace f t)
  whole_as (Const b) h = whole_constant leaves b
  whole_as (Leaf x) h = whole_leaf leaves x ∙ h
  whole_as (One op a) h = whole_one leaves op a ∙ ap (λ u. folded (One op u)) (whole_as a h) ∙ folds_in_parts.one op (replace f a)
  whole_as (Two op a b) h =
      whole_two leaves op a b ∙ ap₂ (λ u v. folded (Two op u v)) (whole_as a h.0) (whole_as b h.1) ∙ folds_in_parts.two op (replace f a) (replace f b)
  whole_as (Mux c a b) h =
      whole_mux leaves c a b ∙ (λ i. folded (Mux (whole_as c h.0 i) (whole_as a h.1 i) (whole_as b h.2 i))) ∙ folds_in_parts.mux (replace f c) (replace f a) (replace f b)

  -- it depends on the leaves alone
  pub whole_along : (t : Tree Name) → EachLeaf (λ x. leaves x ≡ f x) t → whole_of leaves t ≡ whole_of f t
  whole_along (Const b) h = whole_constant leaves b ∙ sym (whole_constant f b)
  whole_along (Leaf x) h = whole_leaf leaves x ∙ ap folded h ∙ sym (whole_leaf f x)
  whole_along (One op a) h = whole_one leaves op a ∙ ap (λ u. folded (One op u)) (whole_along a h) ∙ sym (whole_one f op a)
  whole_along (Two op a b) h =
      whole_two leaves op a b ∙ ap₂ (λ u v. folded (Two op u v)) (whole_along a h.0) (whole_along b h.1) ∙ sym (whole_two f op a b)
  whole_along (Mux c a b) h =
      whole_mux leaves c a b ∙ (λ i. folded (Mux (whole_along c h.0 i) (whole_along a h.1 i) (whole_along b h.2 i))) ∙ sym (whole_mux f c a b)

-- ---- other leaves of the same widths

module _ (good fine : Name → Type 0) (ws vs : Name → ℕ) (h : (x : Name) → good x → fine x × (vs x ≡ ws x)) where
  pub formed_along : (t : Tree Name) → WellFormed good ws t → WellFormed fine vs t × (width_of vs t ≡ width_of ws t)
  formed_along (Const b) g = (g, refl)
  formed_along (Leaf x) g = h x g
  formed_along (One op a) g =
      let p = formed_along a g.0 in
      ((p.0, subst (Fits1 op) (sym p.1) g.1), ap (width1_of op) p.1)
  formed_along (Two op a b) g =
      let p = formed_along a g.0 in
      let q = formed_along b g.1 in
      ((p.0, q.0, subst (λ w. Fits2 op (width_of vs a) w) (sym q.1) (subst (λ w. Fits2 op w (width_of ws b)) (sym p.1) g.2)), ap₂ (width2_of op) p.1 q.1)
  formed_along (Mux c a b) g =
      let o = formed_along c g.0 in
      let p = formed_along a g.1 in
      let q = formed_along b g.2 in
      ((o.0, p.0, q.0, (o.1 ∙ g.3.0, p.1 ∙ g.3.1 ∙ sym q.1)), p.1)

-- ---- more names have nodes

module _ (ns : List Shape) (places : Name → Option ℕ) (old new : List (Option NodeId)) (stay : Stay old new) where
  -- a name that has a node keeps it
  leaf_stays : (p : Option ℕ) → IsSome (node_in old p) → node_in new p ≡ node_in old p
  leaf_stays None h = refl
  leaf_stays (Some k) h = let s = some_of (node_at old k) h in stay.same k s.0 s.1 ∙ sym s.1

  leaf_tree_stays : (x : Name) → IsSome (leaf_id places old x) → leaf_tree ns places new x ≡ leaf_tree ns places old x
  leaf_tree_stays x h = ap (tree_for ns) (leaf_stays (places x) h)

  pub ready_placed : (t : Tree Name) → IsReady (leaf_id places old) (leaf_tree ns places old) t → IsReady (leaf_id places new) (leaf_tree ns places new) t
  ready_placed t h =
      (formed_along (λ x. IsSome (leaf_id places old x)) (λ x. IsSome (leaf_id places new x)) (λ x. tree_width (leaf_tree ns places old x)) (λ x. tree_width (leaf_tree ns places new x))
      (λ x s. (subst IsSome (sym (leaf_stays (places x) s)) s, ap tree_width (leaf_tree_stays x s))) t h).0

  pub whole_placed : (t : Tree Name) → IsReady (leaf_id places old) (leaf_tree ns places old) t → whole_of (leaf_tree ns places new) t ≡ whole_of (leaf_tree ns places old) t
  whole_placed t h =
      whole_along (leaf_tree ns places new) (leaf_tree ns places old) t
      (each_leaf (λ x s. leaf_tree_stays x s) t (good_leaves (λ x. IsSome (leaf_id places old x)) (λ x. tree_width (leaf_tree ns places old x)) t h))

  -- what is known fits then too
  pub fits_placed : (terms : List Term) (memo : List (Option NodeId)) → AreNodes ns new → Fits ns places old terms memo → Fits ns places new terms memo
  fits_placed terms memo nodes f = record {
    shared = f.shared;
    leaves = nodes;
    each = f.each;
    ready = λ k id e. ready_placed _ (f.ready k id e);
    stands = λ k id e. subst (Stands ns id.0) (sym (whole_placed _ (f.ready k id e))) (f.stands k id e);
  }

-- one more node, at a place that had none
pub nodes_set : (ns : List Shape) (nodes : List (Option NodeId)) (k : ℕ) (id : NodeId) → id.0 < length ns → k < length nodes → AreNodes ns nodes → AreNodes ns (set nodes k (Some id))
nodes_set ns nodes k id l inside n = record {
  within = λ j other e. ⊎_elim
      (λ (same : j ≡ k).
      let at : node_at (set nodes k (Some id)) j ≡ Some id = ap (node_at (set nodes k (Some id))) same ∙ get_or-set_same nodes k (Some id) None inside in
      let is : ◌≡◌ {A = Option NodeId} (Some id) (Some other) = sym at ∙ e in
      let ids : id ≡ other = cc in
      subst (λ (i : NodeId). i.0 < length ns) ids l)
      (λ (apart : j ≢ k). n.within j other (sym (get_or-set_other nodes k j (Some id) None apart) ∙ e))
      (cases_eq j k);
}

-- ---- where nothing is known

none_at : (n k : ℕ) → node_at (replicate n None) k ≡ None
none_at zero k = refl
none_at (suc n) zero = refl
none_at (suc n) (suc k) = none_at n k

pub no_nodes : (ns : List Shape) (n : ℕ) → AreNodes ns (replicate n None)
no_nodes ns n = record { within = λ k id e. let no : ◌≡◌ {A = Option NodeId} None (Some id) = sym (none_at n k) ∙ e in cc }

pub fits_none : (ns : List Shape) (places : Name → Option ℕ) (nodes : List (Option NodeId)) (terms : List Term) → AreShared ns → AreNodes ns nodes → Fits ns places nodes terms (replicate (length terms) None)
fits_none ns places nodes terms g n = record {
  shared = g;
  leaves = n;
  each = length-replicate (length terms) None;
  ready = λ k id e. let no : ◌≡◌ {A = Option NodeId} None (Some id) = sym (none_at (length terms) k) ∙ e in absurd (let f : ⊥ = cc in f);
  stands = λ k id e. let no : ◌≡◌ {A = Option NodeId} None (Some id) = sym (none_at (length terms) k) ∙ e in absurd (let f : ⊥ = cc in f);
}
