-- The trees of the nodes of a builder.
use Rattle.std.proofs.Common.{◌≡◌, ℕ, suc, ◌<◌, List, [], ◌∷◌, length, sym, ◌∙◌, subst, arith}
use Rattle.tree_core.specs.Tree as tree
use Rattle.tree_core.specs.Width.{IsWhole}
use Rattle.tree_core.specs.Fold.{folded}
use Rattle.list_core.specs.Lists.{IsIn, IsNotIn, AreApart}
use Rattle.net_core.specs.Nodes.{Shape, Fixed, TopInput, Register, OfOne, OfTwo, OfMux, shape_at, tree_at, node_tree, trees_of, tree_of, OperandsBelow, AreNumbered}
use Rattle.net_core.specs.Builder.{Stands, HaveOneIdEach, AreShared}
use Rattle.net_core.proofs.TreeLists.{trees_length, tree_is}
use Rattle.walk_net.specs.Tasks.{OperandsIn}
use Rattle.walk_net.proofs.Walking.{HasOperands, at_in, in_at}

pub tree_in : (ns : List Shape) (i : ℕ) → i < length ns → IsIn (tree_of ns i) (trees_of ns)
tree_in ns i l = at_in (trees_of ns) i (omega (arith, trees_length ns))

pub stands_in : (ns : List Shape) (id : ℕ) (t : tree.Whole) → Stands ns id t → IsIn t (trees_of ns)
stands_in ns id t s = subst (λ u. IsIn u (trees_of ns)) s.tree (tree_in ns id s.within)

below_in : (ns : List Shape) (j : ℕ) → j < length ns → (s : Shape) → OperandsBelow j s → OperandsIn (node_tree (trees_of ns) s) (trees_of ns)
below_in ns j l (Fixed b) h = tt
below_in ns j l (TopInput name width) h = tt
below_in ns j l (Register instance name start) h = tt
below_in ns j l (OfOne op a) h = tree_in ns a (omega arith)
below_in ns j l (OfTwo op a b) h = (tree_in ns a (omega arith), tree_in ns b (omega arith))
below_in ns j l (OfMux c a b) h = (tree_in ns c (omega arith), tree_in ns a (omega arith), tree_in ns b (omega arith))

pub has_operands : (ns : List Shape) → AreNumbered ns → HasOperands (trees_of ns)
has_operands ns g x i =
    let r = in_at x (trees_of ns) i in
    let l : r.place < length ns = omega (arith, trees_length ns, r.within) in
    subst (λ t. OperandsIn t (trees_of ns)) (sym (tree_is ns g r.place l) ∙ r.is) (below_in ns r.place l (shape_at ns r.place) (g.below r.place l))

-- what a builder says of its trees, by node
pub one_node : (ns : List Shape) → AreShared ns → (i j : ℕ) → i < length ns → j < length ns → tree_of ns i ≡ tree_of ns j → i ≡ j
one_node ns g i j l m e = g.trees.one_id.one i j (omega (arith, trees_length ns)) (omega (arith, trees_length ns)) e

pub whole_at : (ns : List Shape) → AreShared ns → (i : ℕ) → i < length ns → IsWhole (tree_of ns i)
whole_at ns g i l = g.trees.whole i (omega (arith, trees_length ns))

pub folded_at : (ns : List Shape) → AreShared ns → (i : ℕ) → i < length ns → folded (tree_of ns i) ≡ tree_of ns i
folded_at ns g i l = g.trees.folded_already i (omega (arith, trees_length ns))

not_in_by : (x : tree.Whole) (ts : List tree.Whole) → ((j : ℕ) → j < length ts → tree_at ts j ≡ x → ⊥) → IsNotIn x ts
not_in_by x [] h = tt
not_in_by x (t ∷ ts) h = (λ e. h 0 (omega arith) e, not_in_by x ts (λ j l e. h (suc j) (omega arith) e))

-- the trees of a list with one id each differ
pub trees_apart : (ts : List tree.Whole) → HaveOneIdEach ts → AreApart ts
trees_apart [] h = tt
trees_apart (t ∷ ts) h = (
  not_in_by t ts (λ j l e. let s : suc j ≡ 0 = h.one (suc j) 0 (omega arith) (omega arith) e in absurd (omega arith)),
  trees_apart ts (record { one = λ i j l m e. let s : suc i ≡ suc j = h.one (suc i) (suc j) (omega arith) (omega arith) e in omega arith }),
)
