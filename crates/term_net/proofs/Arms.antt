-- What a term that was read tells of its operands and of its node.
use Rattle.std.proofs.Common.{◌≡◌, ◌⊎◌, ℕ, ◌<◌, ◌≤◌, ℤ, List, length, Option, Some, IsSome, Result, Ok, Err, IfOk, inl, inr, refl, sym, ap, ap₂, ◌∙◌, subst, arith, get_or}
use Rattle.text_core.specs.declared.memory.NoMemory.{NoMemory}
use Rattle.bv_core.specs.Value.{Bits, IsBits}
use Rattle.bv_core.specs.Operators.{Fits1, Fits2, FitsMux}
use Rattle.bv_core.specs.declared.operators.Op1.{Op1}
use Rattle.bv_core.specs.declared.operators.Op1.TheVariants as op1
use Rattle.bv_core.specs.declared.operators.Op2.{Op2}
use Rattle.bv_core.specs.declared.reference.NodeId.{NodeId}
use Rattle.tree_core.specs.Tree as tree
use Rattle.tree_core.specs.Tree.{Tree, Whole}
use Rattle.tree_core.specs.Width.{tree_width, IsWhole}
use Rattle.tree_core.specs.Sample.{at_start}
use Rattle.tree_core.proofs.Samples.{some_given}
use Rattle.tree_core.proofs.Folding.{values_fit}
use Rattle.tree_core.specs.Fold.{folded}
use Rattle.exec_core.specs.Block.{Name}
use Rattle.design_core.specs.declared.expr.UnOp.{UnOp}
use Rattle.design_core.specs.declared.expr.Op.{Op}
use Rattle.design_exec.specs.Processes.{unary_of, binary_of}
use Rattle.design_core.specs.Widths.{bits}
use Rattle.net_core.specs.Nodes.{Shape, tree_of, width_at}
use Rattle.net_core.specs.Builder.{Stands}
use Rattle.block_net.specs.declared.term.Term.{Term}
use Rattle.block_net.specs.declared.term.Term.TheVariants.{Leaf, Value, Unary, Binary, Mux, Zext, Slice}
use Rattle.block_net.specs.declared.term.TermId.{TermId}
use Rattle.block_net.specs.Terms.{tree_at, trees_of, term_tree, AreNumbered}
use Rattle.block_net.proofs.TermLists.{read_tree, read_below}
use Rattle.term_net.specs.Leaves.{leaf_id, leaf_tree, node_at, whole_of, term_whole, IsReady}
use Rattle.term_net.specs.Memos.{Fits}
use Rattle.term_net.specs.Pending.{IsOperand}
use Rattle.term_net.proofs.Fitting.{operand_below}
use Rattle.term_net.proofs.Wholes.{node_whole, whole_constant, stands_as, stands_one, stands_two, stands_mux, stands_leaf, fits_one, fits_two, fits_mux}

-- a term with one operand
pub only_operand : (t : Term) (a : TermId) → ((op : UnOp) × (t ≡ Unary op a)) ⊎ (((w : ℤ) × (t ≡ Zext a w)) ⊎ ((h : ℤ) × (l : ℤ) × (t ≡ Slice a h l))) → IsOperand a.0 t
only_operand t a (inl e) = subst (IsOperand a.0) (sym e.1) refl
only_operand t a (inr (inl e)) = subst (IsOperand a.0) (sym e.1) refl
only_operand t a (inr (inr e)) = subst (IsOperand a.0) (sym e.2) refl

pub operand_within : (terms : List Term) (numbered : AreNumbered terms) (memo : List (Option NodeId)) (k : ℕ) (t : Term) → length memo ≡ length terms → k < length terms → t ≡ get_or terms k t → (j : ℕ) → IsOperand j t → j < length memo
operand_within terms numbered memo k t e l read j o =
    let b : j < k = operand_below k t j o (read_below terms terms k t refl numbered l read) in omega arith

pub if_ok : (r : Result NodeId NoMemory) (P Q : ℕ → Type 0) → ((id : ℕ) → P id → Q id) → IfOk r (λ id. P id.0) → IfOk r (λ id. Q id.0)
if_ok (Ok id) P Q f h = f id.0 h
if_ok (Err e) P Q f h = h

-- a term that was read, whose tree can have a node
pub record IsRead (ns : List Shape) (places : Name → Option ℕ) (nodes : List (Option NodeId)) (terms : List Term) (memo : List (Option NodeId)) (k : ℕ) (t : Term) : Type 0 where
  pub fits : Fits ns places nodes terms memo
  pub numbered : AreNumbered terms
  pub within : k < length terms
  pub ready : IsReady (leaf_id places nodes) (leaf_tree ns places nodes) (tree_at (trees_of terms) k)
  pub read : t ≡ get_or terms k t

pub read_of : {ns : List Shape} {places : Name → Option ℕ} {nodes : List (Option NodeId)} {terms : List Term} {memo : List (Option NodeId)} {k : ℕ} {t : Term} → Fits ns places nodes terms memo → AreNumbered terms → k < length terms → IsReady (leaf_id places nodes) (leaf_tree ns places nodes) (tree_at (trees_of terms) k) → t ≡ get_or terms k t → IsRead ns places nodes terms memo k t
read_of f numbered l ready read = record { fits = f; numbered = numbered; within = l; ready = ready; read = read }

-- a well formed tree is at most 128 wide
width_most : (t : Whole) → IsWhole t → tree_width t ≤ 128
width_most t w = let v = values_fit at_start some_given t w in let e = v.width in let m = v.bits.most in omega arith

module _ {ns : List Shape} {places : Name → Option ℕ} {nodes : List (Option NodeId)} {terms : List Term} {memo : List (Option NodeId)} {k : ℕ} {t : Term} (it : IsRead ns places nodes terms memo k t) where
  abbrev pub leaves : Name → Whole
  leaves = leaf_tree ns places nodes

  abbrev pub ts : List (Tree Name)
  ts = trees_of terms

  -- the tree of the term, which is this
  tree_as : (u : Tree Name) → term_tree ts t ≡ u → tree_at ts k ≡ u
  tree_as u e = read_tree terms terms k t refl it.numbered it.within it.read ∙ e

  ready_as : (u : Tree Name) → term_tree ts t ≡ u → IsReady (leaf_id places nodes) leaves u
  ready_as u e = subst (IsReady (leaf_id places nodes) leaves) (tree_as u e) it.ready

  stands_whole : (new : List Shape) (r : ℕ) (u : Tree Name) → term_tree ts t ≡ u → Stands new r (whole_of leaves u) → Stands new r (term_whole leaves terms k)
  stands_whole new r u e s = stands_as ns new leaves r _ _ (ap (whole_of leaves) (sym (tree_as u e))) s

  pub known_within : (a : ℕ) (id : NodeId) → node_at memo a ≡ Some id → id.0 < length ns
  known_within a id e = (it.fits.stands a id e).within

  -- its tree, by what it is
  pub leaf_is : (x y : Name) → t ≡ Leaf x → y ≡ x → term_tree ts t ≡ tree.Leaf y
  leaf_is x y e f = ap (term_tree ts) e ∙ ap tree.Leaf (sym f)

  pub value_is : (w z : ℤ) (v : ℕ) (b : Bits) → t ≡ Value w v → z ≡ w → b ≡ record { width = bits z; value = v } → term_tree ts t ≡ tree.Const b
  value_is w z v b e f g = ap (term_tree ts) e ∙ ap (λ (u : ℤ). tree.Const (record { width = bits u; value = v })) (sym f) ∙ ap tree.Const (sym g)

  pub unary_is : (op : UnOp) (a : TermId) (o : Op1) → t ≡ Unary op a → o ≡ unary_of op → term_tree ts t ≡ tree.One o (tree_at ts a.0)
  unary_is op a o e f = ap (term_tree ts) e ∙ ap (λ x. tree.One x (tree_at ts a.0)) (sym f)

  pub binary_is : (op : Op) (a b : TermId) (o : Op2) → t ≡ Binary op a b → o ≡ binary_of op → term_tree ts t ≡ tree.Two o (tree_at ts a.0) (tree_at ts b.0)
  binary_is op a b o e f = ap (term_tree ts) e ∙ ap (λ x. tree.Two x (tree_at ts a.0) (tree_at ts b.0)) (sym f)

  pub mux_is : (c a b : TermId) → t ≡ Mux c a b → term_tree ts t ≡ tree.Mux (tree_at ts c.0) (tree_at ts a.0) (tree_at ts b.0)
  mux_is c a b e = ap (term_tree ts) e

  pub zext_is : (a : TermId) (w z : ℤ) (to : ℕ) → t ≡ Zext a w → z ≡ w → to ≡ bits z → term_tree ts t ≡ tree.One (op1.Zext to) (tree_at ts a.0)
  zext_is a w z to e f g = ap (term_tree ts) e ∙ ap (λ x. tree.One (op1.Zext x) (tree_at ts a.0)) (ap bits (sym f) ∙ sym g)

  pub slice_is : (a : TermId) (h l y z : ℤ) (high low : ℕ) → t ≡ Slice a h l → y ≡ h → z ≡ l → high ≡ bits y → low ≡ bits z → term_tree ts t ≡ tree.One (op1.Slice high low) (tree_at ts a.0)
  slice_is a h l y z high low e f g p q =
      ap (term_tree ts) e ∙ ap₂ (λ i j. tree.One (op1.Slice i j) (tree_at ts a.0)) (ap bits (sym f) ∙ sym p) (ap bits (sym g) ∙ sym q)

  -- a name
  pub leaf_some : (x : Name) (o : Option NodeId) → term_tree ts t ≡ tree.Leaf x → o ≡ leaf_id places nodes x → IsSome o
  leaf_some x o e h = subst IsSome (sym h) (ready_as (tree.Leaf x) e)

  pub leaf_stands : (x : Name) (o : Option NodeId) (id : NodeId) → term_tree ts t ≡ tree.Leaf x → o ≡ leaf_id places nodes x → o ≡ Some id → Stands ns id.0 (term_whole leaves terms k)
  leaf_stands x o id e h s = stands_whole ns id.0 (tree.Leaf x) e (stands_leaf ns places nodes it.fits.shared it.fits.leaves x id (sym h ∙ s))

  -- a constant
  pub value_bits : (b : Bits) → term_tree ts t ≡ tree.Const b → IsBits b
  value_bits b e = ready_as (tree.Const b) e

  pub value_stands : (new : List Shape) (r : ℕ) (b : Bits) → term_tree ts t ≡ tree.Const b → Stands new r (tree.Const b) → Stands new r (term_whole leaves terms k)
  value_stands new r b e s = stands_whole new r (tree.Const b) e (stands_as ns new leaves r _ _ (sym (whole_constant leaves b)) s)

  -- an operator on an operand that has a node
  pub one_fits : (op : Op1) (a : ℕ) (id : NodeId) → term_tree ts t ≡ tree.One op (tree_at ts a) → node_at memo a ≡ Some id → Fits1 op (width_at ns id.0)
  one_fits op a id e h = fits_one ns places nodes it.fits.shared it.fits.leaves op (tree_at ts a) id.0 (ready_as (tree.One op (tree_at ts a)) e) (it.fits.stands a id h)

  pub one_stands : (new : List Shape) (r : ℕ) (op : Op1) (a : ℕ) (id : NodeId) → term_tree ts t ≡ tree.One op (tree_at ts a) → node_at memo a ≡ Some id → Stands new r (folded (tree.One op (tree_of ns id.0))) → Stands new r (term_whole leaves terms k)
  one_stands new r op a id e h s =
      stands_whole new r (tree.One op (tree_at ts a)) e (stands_one ns new leaves op id.0 (tree_at ts a) r (it.fits.stands a id h) s)

  -- the width of an extension, and the places of a slice
  pub zext_small : (to a : ℕ) → term_tree ts t ≡ tree.One (op1.Zext to) (tree_at ts a) → to < 256
  zext_small to a e = let m = (ready_as (tree.One (op1.Zext to) (tree_at ts a)) e).1.1 in omega arith

  pub slice_small : (high low a : ℕ) (id : NodeId) → term_tree ts t ≡ tree.One (op1.Slice high low) (tree_at ts a) → node_at memo a ≡ Some id → (high < 256) × (low < 256)
  slice_small high low a id e h =
      let fits = one_fits (op1.Slice high low) a id e h in
      let m = fits.0 in
      let n = fits.1 in
      let w : width_at ns id.0 ≤ 128 = width_most (tree_of ns id.0) (node_whole ns it.fits.shared id.0 (known_within a id h)) in
      (omega arith, omega arith)

  -- two operands
  pub two_fits : (op : Op2) (a b : ℕ) (i j : NodeId) → term_tree ts t ≡ tree.Two op (tree_at ts a) (tree_at ts b) → node_at memo a ≡ Some i → node_at memo b ≡ Some j → Fits2 op (width_at ns i.0) (width_at ns j.0)
  two_fits op a b i j e p q =
      fits_two ns places nodes it.fits.shared it.fits.leaves op (tree_at ts a) (tree_at ts b) i.0 j.0 (ready_as (tree.Two op (tree_at ts a) (tree_at ts b)) e) (it.fits.stands a i p) (it.fits.stands b j q)

  pub two_stands : (new : List Shape) (r : ℕ) (op : Op2) (a b : ℕ) (i j : NodeId) → term_tree ts t ≡ tree.Two op (tree_at ts a) (tree_at ts b) → node_at memo a ≡ Some i → node_at memo b ≡ Some j → Stands new r (folded (tree.Two op (tree_of ns i.0) (tree_of ns j.0))) → Stands new r (term_whole leaves terms k)
  two_stands new r op a b i j e p q s =
      stands_whole new r (tree.Two op (tree_at ts a) (tree_at ts b)) e (stands_two ns new leaves op i.0 j.0 (tree_at ts a) (tree_at ts b) r (it.fits.stands a i p) (it.fits.stands b j q) s)

  -- a choice
  pub mux_fits : (c a b : ℕ) (h i j : NodeId) → term_tree ts t ≡ tree.Mux (tree_at ts c) (tree_at ts a) (tree_at ts b) → node_at memo c ≡ Some h → node_at memo a ≡ Some i → node_at memo b ≡ Some j → FitsMux (width_at ns h.0) (width_at ns i.0) (width_at ns j.0)
  mux_fits c a b h i j e o p q =
      fits_mux ns places nodes it.fits.shared it.fits.leaves (tree_at ts c) (tree_at ts a) (tree_at ts b) h.0 i.0 j.0 (ready_as (tree.Mux (tree_at ts c) (tree_at ts a) (tree_at ts b)) e)
      (it.fits.stands c h o) (it.fits.stands a i p) (it.fits.stands b j q)

  pub mux_stands : (new : List Shape) (r : ℕ) (c a b : ℕ) (h i j : NodeId) → term_tree ts t ≡ tree.Mux (tree_at ts c) (tree_at ts a) (tree_at ts b) → node_at memo c ≡ Some h → node_at memo a ≡ Some i → node_at memo b ≡ Some j → Stands new r (folded (tree.Mux (tree_of ns h.0) (tree_of ns i.0) (tree_of ns j.0))) → Stands new r (term_whole leaves terms k)
  mux_stands new r c a b h i j e o p q s =
      stands_whole new r (tree.Mux (tree_at ts c) (tree_at ts a) (tree_at ts b)) e
      (stands_mux ns new leaves h.0 i.0 j.0 (tree_at ts c) (tree_at ts a) (tree_at ts b) r (it.fits.stands c h o) (it.fits.stands a i p) (it.fits.stands b j q) s)
