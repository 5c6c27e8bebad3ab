-- What is known of terms stays known as the builder grows, and as more terms have nodes.
use Rattle.std.proofs.Common.{◌≡◌, ◌≢◌, ℕ, ◌<◌, List, length, set, Option, Some, None, inl, inr, ⊎_elim, refl, sym, ap, ◌∙◌, subst, arith, get_or}
use Rattle.std.proofs.lemmas.List.{length-set, get_or-set_same, get_or-set_other, get_or_past, get_or_default}
use Rattle.std.proofs.lemmas.Bool.{cases_eq, cases_lt}
use Rattle.bv_core.specs.declared.reference.NodeId.{NodeId}
use Rattle.tree_core.specs.Tree.{Tree, Whole}
use Rattle.exec_core.specs.Block.{Name}
use Rattle.net_core.specs.Nodes.{Shape}
use Rattle.net_core.specs.Builder.{AreShared, Keeps, Stands}
use Rattle.block_net.specs.declared.term.Term.{Term}
use Rattle.block_net.specs.declared.term.Term.TheVariants.{Leaf, Value, Unary, Binary, Mux, Zext, Slice}
use Rattle.block_net.specs.Terms.{tree_at, trees_of, term_tree, OperandsBelow, AreNumbered}
use Rattle.block_net.proofs.TermLists.{read_tree, read_below}
use Rattle.term_net.specs.Leaves.{leaf_id, leaf_tree, tree_for, node_in, node_at, term_whole, IsReady}
use Rattle.term_net.specs.Growth.{AreNodes, Stay}
use Rattle.term_net.specs.Memos.{Fits}
use Rattle.term_net.specs.Pending.{term_at, IsOperand, IsPending}

-- ---- growth of the builder

pub stands_more : (old new : List Shape) (id : ℕ) (t : Whole) → Keeps old new → Stands old id t → Stands new id t
stands_more old new id t k s =
    let l = k.longer in
    let m = s.within in
    record { within = omega arith; tree = k.same id s.within ∙ s.tree }

pub nodes_more : (old new : List Shape) (ids : List (Option NodeId)) → Keeps old new → AreNodes old ids → AreNodes new ids
nodes_more old new ids k n = record { within = λ i id e. let l = k.longer in let m = n.within i id e in omega arith }

tree_for_more : (old new : List Shape) (ids : List (Option NodeId)) → Keeps old new → AreNodes old ids → (p : Option ℕ) (o : Option NodeId) → node_in ids p ≡ o → tree_for new o ≡ tree_for old o
tree_for_more old new ids k n p None e = refl
tree_for_more old new ids k n None (Some id) e = cc
tree_for_more old new ids k n (Some i) (Some id) e = k.same id.0 (n.within i id e)

-- the tree of each name stays
pub leaves_same : (old new : List Shape) (places : Name → Option ℕ) (nodes : List (Option NodeId)) → Keeps old new → AreNodes old nodes → leaf_tree new places nodes ≡ leaf_tree old places nodes
leaves_same old new places nodes k n = λ i x. tree_for_more old new nodes k n (places x) (leaf_id places nodes x) refl i

pub term_same : (old new : List Shape) (places : Name → Option ℕ) (nodes : List (Option NodeId)) (terms : List Term) (j : ℕ) → Keeps old new → AreNodes old nodes → term_whole (leaf_tree new places nodes) terms j ≡ term_whole (leaf_tree old places nodes) terms j
term_same old new places nodes terms j k n = ap (λ leaves. term_whole leaves terms j) (leaves_same old new places nodes k n)

pub ready_more : (old new : List Shape) (places : Name → Option ℕ) (nodes : List (Option NodeId)) (t : Tree Name) → Keeps old new → AreNodes old nodes → IsReady (leaf_id places nodes) (leaf_tree old places nodes) t → IsReady (leaf_id places nodes) (leaf_tree new places nodes) t
ready_more old new places nodes t k n h = subst (λ leaves. IsReady (leaf_id places nodes) leaves t) (sym (leaves_same old new places nodes k n)) h

-- what is known fits later
pub fits_more : (old new : List Shape) (places : Name → Option ℕ) (nodes : List (Option NodeId)) (terms : List Term) (memo : List (Option NodeId)) → AreShared new → Keeps old new → Fits old places nodes terms memo → Fits new places nodes terms memo
fits_more old new places nodes terms memo shared k f = record {
  shared = shared;
  leaves = nodes_more old new nodes k f.leaves;
  each = f.each;
  ready = λ j id e. ready_more old new places nodes _ k f.leaves (f.ready j id e);
  stands = λ j id e. subst (Stands new id.0) (sym (term_same old new places nodes terms j k f.leaves)) (stands_more old new id.0 _ k (f.stands j id e));
}

-- ---- one more term has a node

node_in_list : (memo : List (Option NodeId)) (k : ℕ) (id : NodeId) → node_at memo k ≡ Some id → k < length memo
node_in_list memo k id e =
    ⊎_elim (λ l. l) (λ l. let past : node_at memo k ≡ None = get_or_past memo k None l in absurd (let no : ◌≡◌ {A = Option NodeId} None (Some id) = sym past ∙ e in cc)) (cases_lt k (length memo))

pub set_stays : (memo new : List (Option NodeId)) (k : ℕ) (id : NodeId) → node_at memo k ≡ None → new ≡ set memo k (Some id) → Stay memo new
set_stays memo new k id none s = record {
  same = λ j old e. ⊎_elim
      (λ (same : j ≡ k). let no : ◌≡◌ {A = Option NodeId} None (Some old) = sym none ∙ ap (node_at memo) (sym same) ∙ e in cc)
      (λ (other : j ≢ k). ap (λ m. node_at m j) s ∙ get_or-set_other memo k j (Some id) None other ∙ e)
      (cases_eq j k);
}

pub set_fits : (ns : List Shape) (places : Name → Option ℕ) (nodes : List (Option NodeId)) (terms : List Term) (memo new : List (Option NodeId)) (k : ℕ) (id : NodeId) → Fits ns places nodes terms memo → new ≡ set memo k (Some id) → k < length memo → IsReady (leaf_id places nodes) (leaf_tree ns places nodes) (tree_at (trees_of terms) k) → Stands ns id.0 (term_whole (leaf_tree ns places nodes) terms k) → Fits ns places nodes terms new
set_fits ns places nodes terms memo new k id f s l ready h = record {
  shared = f.shared;
  leaves = f.leaves;
  each = ap length s ∙ length-set memo k (Some id) ∙ f.each;
  ready = λ j other e. ⊎_elim
      (λ (same : j ≡ k). subst (λ i. IsReady (leaf_id places nodes) (leaf_tree ns places nodes) (tree_at (trees_of terms) i)) (sym same) ready)
      (λ (apart : j ≢ k). f.ready j other (sym (get_or-set_other memo k j (Some id) None apart) ∙ ap (λ m. node_at m j) (sym s) ∙ e))
      (cases_eq j k);
  stands = λ j other e. ⊎_elim
      (λ (same : j ≡ k).
      let at : node_at new k ≡ Some id = ap (λ m. node_at m k) s ∙ get_or-set_same memo k (Some id) None l in
      let is : ◌≡◌ {A = Option NodeId} (Some id) (Some other) = sym at ∙ ap (node_at new) (sym same) ∙ e in
      let ids : id ≡ other = cc in
      subst (λ i. Stands ns i.0 (term_whole (leaf_tree ns places nodes) terms j)) ids (subst (λ i. Stands ns id.0 (term_whole (leaf_tree ns places nodes) terms i)) (sym same) h))
      (λ (apart : j ≢ k). f.stands j other (sym (get_or-set_other memo k j (Some id) None apart) ∙ ap (λ m. node_at m j) (sym s) ∙ e))
      (cases_eq j k);
}

pub stay_none : (memo : List (Option NodeId)) → Stay memo memo
stay_none memo = record { same = λ k id e. e }

pub stay_twice : (a b c : List (Option NodeId)) → Stay a b → Stay b c → Stay a c
stay_twice a b c x y = record { same = λ k id e. y.same k id (x.same k id e) }

-- ---- pending terms

pub pending_more : (old new : List Shape) (places : Name → Option ℕ) (nodes : List (Option NodeId)) (terms : List Term) (memo : List (Option NodeId)) (k : ℕ) → Keeps old new → AreNodes old nodes → IsPending old places nodes terms memo k → IsPending new places nodes terms memo k
pending_more old new places nodes terms memo k keeps n p = record { unknown = p.unknown; ready = ready_more old new places nodes _ keeps n p.ready }

pub pending_set : (ns : List Shape) (places : Name → Option ℕ) (nodes : List (Option NodeId)) (terms : List Term) (memo new : List (Option NodeId)) (j k : ℕ) (id : NodeId) → new ≡ set memo k (Some id) → k < j → IsPending ns places nodes terms memo j → IsPending ns places nodes terms new j
pending_set ns places nodes terms memo new j k id s l p = record {
  unknown = let apart : j ≢ k = omega arith in ap (λ m. node_at m j) s ∙ get_or-set_other memo k j (Some id) None apart ∙ p.unknown;
  ready = p.ready;
}

-- an operand of a term that can have a node can have one, and is numbered below it
pub operand_ready : (ids : Name → Option NodeId) (leaves : Name → Whole) (ts : List (Tree Name)) (term : Term) (k : ℕ) → IsOperand k term → IsReady ids leaves (term_tree ts term) → IsReady ids leaves (tree_at ts k)
operand_ready ids leaves ts (Leaf x) k o h = absurd o
operand_ready ids leaves ts (Value w v) k o h = absurd o
operand_ready ids leaves ts (Unary op a) k o h = subst (λ i. IsReady ids leaves (tree_at ts i)) (sym o) h.0
operand_ready ids leaves ts (Binary op a b) k (inl o) h = subst (λ i. IsReady ids leaves (tree_at ts i)) (sym o) h.0
operand_ready ids leaves ts (Binary op a b) k (inr o) h = subst (λ i. IsReady ids leaves (tree_at ts i)) (sym o) h.1
operand_ready ids leaves ts (Mux c a b) k (inl o) h = subst (λ i. IsReady ids leaves (tree_at ts i)) (sym o) h.0
operand_ready ids leaves ts (Mux c a b) k (inr (inl o)) h = subst (λ i. IsReady ids leaves (tree_at ts i)) (sym o) h.1
operand_ready ids leaves ts (Mux c a b) k (inr (inr o)) h = subst (λ i. IsReady ids leaves (tree_at ts i)) (sym o) h.2
operand_ready ids leaves ts (Zext a w) k o h = subst (λ i. IsReady ids leaves (tree_at ts i)) (sym o) h.0
operand_ready ids leaves ts (Slice a hi lo) k o h = subst (λ i. IsReady ids leaves (tree_at ts i)) (sym o) h.0

pub operand_below : (n : ℕ) (term : Term) (k : ℕ) → IsOperand k term → OperandsBelow n term → k < n
operand_below n (Leaf x) k o h = absurd o
operand_below n (Value w v) k o h = absurd o
operand_below n (Unary op a) k o h = omega (arith, o, h)
operand_below n (Binary op a b) k (inl o) h = let l = h.0 in omega (arith, o, l)
operand_below n (Binary op a b) k (inr o) h = let l = h.1 in omega (arith, o, l)
operand_below n (Mux c a b) k (inl o) h = let l = h.0 in omega (arith, o, l)
operand_below n (Mux c a b) k (inr (inl o)) h = let l = h.1 in omega (arith, o, l)
operand_below n (Mux c a b) k (inr (inr o)) h = let l = h.2 in omega (arith, o, l)
operand_below n (Zext a w) k o h = omega (arith, o, h)
operand_below n (Slice a hi lo) k o h = omega (arith, o, h)

module _ (terms : List Term) (numbered : AreNumbered terms) (k : ℕ) (l : k < length terms) where
  read : term_at terms k ≡ get_or terms k (term_at terms k)
  read = get_or_default terms k _ (term_at terms k) l

  -- the tree of a term is over those of its operands, which are numbered below it
  pub term_is : tree_at (trees_of terms) k ≡ term_tree (trees_of terms) (term_at terms k)
  term_is = read_tree terms terms k (term_at terms k) refl numbered l read

  pub terms_below : OperandsBelow k (term_at terms k)
  terms_below = read_below terms terms k (term_at terms k) refl numbered l read

  pub operand_is : (ids : Name → Option NodeId) (leaves : Name → Whole) (j : ℕ) → IsOperand j (term_at terms k) → IsReady ids leaves (tree_at (trees_of terms) k) → (j < k) × IsReady ids leaves (tree_at (trees_of terms) j)
  operand_is ids leaves j o h =
      (operand_below k (term_at terms k) j o terms_below, operand_ready ids leaves (trees_of terms) (term_at terms k) j o (subst (IsReady ids leaves) term_is h))
