-- The trees of numbered nodes.
use Rattle.std.proofs.Common.{◌≡◌, ℕ, zero, suc, ◌+◌, ◌<◌, List, [], ◌∷◌, ◌++◌, length, refl, sym, ap, ap₂, ◌∙◌, subst, arith, length-append}
use Rattle.std.proofs.Math.Seq.{get_or-append_seam}
use Rattle.std.proofs.Math.ListN.{get_or-append}
use Rattle.tree_core.specs.Tree as tree
use Rattle.net_core.specs.Nodes.{Shape, Fixed, TopInput, Register, OfOne, OfTwo, OfMux, shape_at, tree_at, node_tree, trees_from, trees_of, tree_of, OperandsBelow, AreNumbered}

pub at_front : (ts us : List tree.Whole) (i : ℕ) → i < length ts → tree_at (ts ++ us) i ≡ tree_at ts i
at_front ts us i h = get_or-append ts us (tree.Const (record { width = 1; value = 0 })) i h

pub at_last : (ts : List tree.Whole) (t : tree.Whole) → tree_at (ts ++ t ∷ []) (length ts) ≡ t
at_last ts t = get_or-append_seam ts t [] (tree.Const (record { width = 1; value = 0 }))

pub length-more : (ts : List tree.Whole) (t : tree.Whole) → length (ts ++ t ∷ []) ≡ length ts + 1
length-more ts t = length-append ts (t ∷ [])

from_push : (ts : List tree.Whole) (ns : List Shape) (n : Shape) → trees_from ts (ns ++ n ∷ []) ≡ trees_from ts ns ++ node_tree (trees_from ts ns) n ∷ []
unfolding trees_from
from_push ts [] n = refl
from_push ts (m ∷ ns) n = from_push (ts ++ node_tree ts m ∷ []) ns n

-- one more node has one more tree
pub trees_push : (ns : List Shape) (n : Shape) → trees_of (ns ++ n ∷ []) ≡ trees_of ns ++ node_tree (trees_of ns) n ∷ []
trees_push ns n = from_push [] ns n

from_length : (ts : List tree.Whole) (ns : List Shape) → length (trees_from ts ns) ≡ length ts + length ns
unfolding trees_from
from_length ts [] = omega arith
from_length ts (n ∷ ns) = omega (arith, from_length (ts ++ node_tree ts n ∷ []) ns, length-append ts (node_tree ts n ∷ []))

pub trees_length : (ns : List Shape) → length (trees_of ns) ≡ length ns
trees_length ns = omega (arith, from_length [] ns)

pub no_trees : trees_of [] ≡ []
unfolding trees_from
no_trees = refl

-- a node's tree depends on those of its operands alone
pub node_along : (ts us : List tree.Whole) (k : ℕ) (n : Shape) → ((i : ℕ) → i < k → tree_at us i ≡ tree_at ts i) → OperandsBelow k n → node_tree us n ≡ node_tree ts n
node_along ts us k (Fixed b) same h = refl
node_along ts us k (TopInput name width) same h = refl
node_along ts us k (Register instance name start) same h = refl
node_along ts us k (OfOne op a) same h = ap (tree.One op) (same a h)
node_along ts us k (OfTwo op a b) same h = ap₂ (tree.Two op) (same a h.0) (same b h.1)
node_along ts us k (OfMux c a b) same h = λ i. tree.Mux (same c h.0 i) (same a h.1 i) (same b h.2 i)

-- the trees of before stay
pub from_keeps : (ts : List tree.Whole) (ns : List Shape) (i : ℕ) → i < length ts → tree_at (trees_from ts ns) i ≡ tree_at ts i
unfolding trees_from
from_keeps ts [] i h = refl
from_keeps ts (n ∷ ns) i h =
    from_keeps (ts ++ node_tree ts n ∷ []) ns i (omega (arith, length-more ts (node_tree ts n)))
    ∙ at_front ts (node_tree ts n ∷ []) i h

-- nodes that are numbered from k
From : ℕ → List Shape → Type 0
From k ns = (j : ℕ) → j < length ns → OperandsBelow (k + j) (shape_at ns j)

from_rest : (k : ℕ) (n : Shape) (ns : List Shape) → From k (n ∷ ns) → From (k + 1) ns
unfolding From
from_rest k n ns h j l =
    subst (λ m. OperandsBelow m (shape_at ns j)) (let e : k + suc j ≡ k + 1 + j = omega arith in e) (h (suc j) (omega arith))

from_nodes : (ts : List tree.Whole) (ns : List Shape) → From (length ts) ns → (j : ℕ) → j < length ns → tree_at (trees_from ts ns) (length ts + j) ≡ node_tree (trees_from ts ns) (shape_at ns j)
unfolding trees_from From
from_nodes ts [] f j h = absurd (omega arith)
from_nodes ts (n ∷ ns) f zero h =
    let more = ts ++ node_tree ts n ∷ [] in
    let z : length ts + 0 ≡ length ts = omega arith in
    ap (tree_at (trees_from more ns)) z
    ∙ from_keeps more ns (length ts) (omega (arith, length-more ts (node_tree ts n)))
    ∙ at_last ts (node_tree ts n)
    ∙ sym (node_along ts (trees_from more ns) (length ts) n
    (λ i l. from_keeps more ns i (omega (arith, length-more ts (node_tree ts n))) ∙ at_front ts (node_tree ts n ∷ []) i l)
    (subst (λ m. OperandsBelow m n) z (f 0 (omega arith))))
from_nodes ts (n ∷ ns) f (suc j) h =
    let more = ts ++ node_tree ts n ∷ [] in
    let e : length ts + suc j ≡ length more + j = omega (arith, length-more ts (node_tree ts n)) in
    ap (tree_at (trees_from more ns)) e
    ∙ from_nodes more ns (subst (λ m. From m ns) (sym (length-more ts (node_tree ts n))) (from_rest (length ts) n ns f)) j (omega arith)

-- the tree of each number is that of its node
pub tree_is : (ns : List Shape) → AreNumbered ns → (j : ℕ) → j < length ns → tree_of ns j ≡ node_tree (trees_of ns) (shape_at ns j)
unfolding From
tree_is ns f j h =
    let z : 0 + j ≡ j = omega arith in
    ap (tree_at (trees_of ns)) (sym z)
    ∙ from_nodes [] ns (λ i l. subst (λ m. OperandsBelow m (shape_at ns i)) (let y : i ≡ 0 + i = omega arith in y) (f.below i l)) j h
