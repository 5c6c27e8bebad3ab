-- What an application stands for.
use Rattle.std.proofs.Common.{◌≡◌, ℕ, ◌<◌, Bool, true, ◌==◌, List, ◌∷◌, [], ◌++◌, length, Option, Some, Result, IfOk, OnOk, if◌then◌else◌, sym, ap, ap₂, ◌∙◌, subst, arith}
use Rattle.std.proofs.lemmas.Bool.Decides.{Decides-eqb, same_from_decides}
use Rattle.bv_core.specs.Value.{Bits}
use Rattle.bv_core.specs.Operators.{Fits1, Fits2, FitsMux}
use Rattle.bv_core.specs.declared.operators.Op1.{Op1}
use Rattle.bv_core.specs.declared.operators.Op2.{Op2}
use Rattle.bv_core.specs.declared.reference.NodeId.{NodeId}
use Rattle.text_core.specs.declared.memory.NoMemory.{NoMemory}
use Rattle.tree_core.specs.Tree as tree
use Rattle.tree_core.specs.Width.{tree_width, origin_width, IsWhole}
use Rattle.tree_core.specs.Fold.{constant, same_tree, same_origin, Outcome, one_outcome, two_outcome, mux_outcome, taken, fold1, fold2, fold3, folded}
use Rattle.tree_core.proofs.Same.{tests_trees}
use Rattle.net_core.specs.Nodes.{Shape, trees_of, tree_of, width_at}
use Rattle.net_core.specs.Builder.{has_tree, Stands, AreShared, Adds}
use Rattle.net_core.proofs.TreeLists.{trees_length}
use Rattle.net_core.proofs.Sharing.{any_at}

-- a tree that an id stands for is there
pub adds_there : (ns : List Shape) (i : ℕ) (t : tree.Whole) → i < length ns → tree_of ns i ≡ t → Adds ns ns t
adds_there ns i t l e =
    let there : has_tree t (trees_of ns) ≡ true =
    any_at (same_tree same_origin t) (tree.Const (record { width = 1; value = 0 })) (trees_of ns) i (omega (arith, trees_length ns)) ((tests_trees t (tree_of ns i)).1 (sym e)) in
    sym (ap (λ b. if b then trees_of ns else trees_of ns ++ t ∷ []) there)

pub stands_there : (ns : List Shape) (i : ℕ) (t : tree.Whole) → i < length ns → t ≡ tree_of ns i → Stands ns i t
stands_there ns i t l e = record { within = l; tree = sym e }

pub stands_as : (r : Result NodeId NoMemory) (ns : List Shape) (t u : tree.Whole) → u ≡ t → IfOk r (λ id. Stands ns id.0 t) → IfOk r (λ id. Stands ns id.0 u)
stands_as r ns t u e h = subst (λ v. IfOk r (λ id. Stands ns id.0 v)) (sym e) h

pub adds_as : (r : Result NodeId NoMemory) (old new : List Shape) (t u : tree.Whole) → u ≡ t → OnOk r (Adds old new t) → OnOk r (Adds old new u)
adds_as r old new t u e h = subst (λ v. OnOk r (Adds old new v)) (sym e) h

-- a constant's width is that of its tree
pub constant_width : (t : tree.Whole) (x : Bits) → constant t ≡ Some x → tree_width t ≡ x.width
constant_width (tree.Const b) x e = let p : b ≡ x = cc in ap (λ v. v.width) p
constant_width (tree.Leaf o) x e = cc
constant_width (tree.One op a) x e = cc
constant_width (tree.Two op a b) x e = cc
constant_width (tree.Mux c a b) x e = cc

module _ (ns : List Shape) (g : AreShared ns) where
  whole_at : (i : ℕ) → i < length ns → IsWhole (tree_of ns i)
  whole_at i l = g.trees.whole i (omega (arith, trees_length ns))

  fixed_at : (i : ℕ) → i < length ns → folded (tree_of ns i) ≡ tree_of ns i
  fixed_at i l = g.trees.folded_already i (omega (arith, trees_length ns))

  pub whole_one : (op : Op1) (a : ℕ) → a < length ns → Fits1 op (width_at ns a) → IsWhole (tree.One op (tree_of ns a))
  whole_one op a l f = (whole_at a l, f)

  pub whole_two : (op : Op2) (a b : ℕ) → a < length ns → b < length ns → Fits2 op (width_at ns a) (width_at ns b) → IsWhole (tree.Two op (tree_of ns a) (tree_of ns b))
  whole_two op a b l m f = (whole_at a l, whole_at b m, f)

  pub whole_mux : (c a b : ℕ) → c < length ns → a < length ns → b < length ns → FitsMux (width_at ns c) (width_at ns a) (width_at ns b) → IsWhole (tree.Mux (tree_of ns c) (tree_of ns a) (tree_of ns b))
  whole_mux c a b k l m f = (whole_at c k, whole_at a l, whole_at b m, f)

  pub folds_one : (o : Outcome) (op : Op1) (a : ℕ) (w : ℕ) (k : Option Bits) → a < length ns → w ≡ width_at ns a → k ≡ constant (tree_of ns a) → o ≡ one_outcome op w k → folded (tree.One op (tree_of ns a)) ≡ taken o (tree_of ns a) (tree_of ns a) (tree_of ns a) (tree.One op (tree_of ns a))
  folds_one o op a w k l e f h =
      ap (fold1 origin_width op) (fixed_at a l)
      ∙ ap (λ x. taken x (tree_of ns a) (tree_of ns a) (tree_of ns a) (tree.One op (tree_of ns a))) (sym (h ∙ ap₂ (one_outcome op) e f))

  pub folds_two : (o : Outcome) (op : Op2) (a b : ℕ) (j k : Option Bits) → a < length ns → b < length ns → j ≡ constant (tree_of ns a) → k ≡ constant (tree_of ns b) → o ≡ two_outcome op j k → folded (tree.Two op (tree_of ns a) (tree_of ns b)) ≡ taken o (tree_of ns a) (tree_of ns b) (tree_of ns b) (tree.Two op (tree_of ns a) (tree_of ns b))
  folds_two o op a b j k l m e f h =
      ap₂ (fold2 op) (fixed_at a l) (fixed_at b m)
      ∙ ap (λ x. taken x (tree_of ns a) (tree_of ns b) (tree_of ns b) (tree.Two op (tree_of ns a) (tree_of ns b))) (sym (h ∙ ap₂ (two_outcome op) e f))

  -- ids are equal exactly where their trees are
  pub same_ids : (a b : ℕ) → a < length ns → b < length ns → (a == b) ≡ same_tree same_origin (tree_of ns a) (tree_of ns b)
  same_ids a b l m =
      let len = trees_length ns in
      let d = tests_trees (tree_of ns a) (tree_of ns b) in
      same_from_decides (a == b) _ (Decides-eqb a b)
      (λ e. g.trees.one_id.one a b (omega (arith, len)) (omega (arith, len)) (d.0 e), λ e. d.1 (ap (tree_of ns) e))

  pub folds_mux : (o : Outcome) (c a b : ℕ) (i j k : Option Bits) (same : Bool) → c < length ns → a < length ns → b < length ns → i ≡ constant (tree_of ns c) → j ≡ constant (tree_of ns a) → k ≡ constant (tree_of ns b) → same ≡ (a == b) → o ≡ mux_outcome i j k same → folded (tree.Mux (tree_of ns c) (tree_of ns a) (tree_of ns b)) ≡ taken o (tree_of ns c) (tree_of ns a) (tree_of ns b) (tree.Mux (tree_of ns c) (tree_of ns a) (tree_of ns b))
  folds_mux o c a b i j k same h l m p q r s t =
      (λ z. fold3 same_origin (fixed_at c h z) (fixed_at a l z) (fixed_at b m z))
      ∙ ap (λ x. taken x (tree_of ns c) (tree_of ns a) (tree_of ns b) (tree.Mux (tree_of ns c) (tree_of ns a) (tree_of ns b)))
      (sym (t ∙ (λ z. mux_outcome (p z) (q z) (r z) ((s ∙ same_ids a b l m) z))))

-- an operand that folding gives is there
pub adds_operand : (ns : List Shape) (o p : Outcome) (a b c i : ℕ) (t u : tree.Whole) → t ≡ taken o (tree_of ns a) (tree_of ns b) (tree_of ns c) u → o ≡ p → taken p (tree_of ns a) (tree_of ns b) (tree_of ns c) u ≡ tree_of ns i → i < length ns → Adds ns ns t
adds_operand ns o p a b c i t u e q r l =
    adds_there ns i t l (sym (e ∙ ap (λ x. taken x (tree_of ns a) (tree_of ns b) (tree_of ns c) u) q ∙ r))

-- what the operators require of constants
pub one_constant : (op : Op1) (t : tree.Whole) (k : Option Bits) (x : Bits) → Fits1 op (tree_width t) → k ≡ constant t → k ≡ Some x → Fits1 op x.width
one_constant op t k x f e h = subst (Fits1 op) (constant_width t x (sym e ∙ h)) f

pub two_constants : (op : Op2) (s t : tree.Whole) (j k : Option Bits) (x y : Bits) → Fits2 op (tree_width s) (tree_width t) → j ≡ constant s → k ≡ constant t → j ≡ Some x → k ≡ Some y → Fits2 op x.width y.width
two_constants op s t j k x y f d e g h =
    subst (Fits2 op x.width) (constant_width t y (sym e ∙ h)) (subst (λ w. Fits2 op w (tree_width t)) (constant_width s x (sym d ∙ g)) f)

pub mux_constants : (r s t : tree.Whole) (i j k : Option Bits) (x y z : Bits) → FitsMux (tree_width r) (tree_width s) (tree_width t) → i ≡ constant r → j ≡ constant s → k ≡ constant t → i ≡ Some x → j ≡ Some y → k ≡ Some z → FitsMux x.width y.width z.width
mux_constants r s t i j k x y z f a b c d e h =
    (sym (constant_width r x (sym a ∙ d)) ∙ f.0, sym (constant_width s y (sym b ∙ e)) ∙ f.1 ∙ constant_width t z (sym c ∙ h))
