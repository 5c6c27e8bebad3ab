-- Nodes are told by their trees.
use Rattle.std.proofs.Common.{◌≡◌, ℕ, ◌<◌, List, length, map, Some, refl, sym, ap, ap₂, ◌∙◌, subst, arith}
use Rattle.std.proofs.lemmas.List.{ext_get_or, get_or-map, length-map}
use Rattle.std.proofs.lemmas.Option.{slice_get-get_or}
use Rattle.tree_core.specs.Tree as tree
use Rattle.list_core.specs.Lists.{IsIn}
use Rattle.net_core.specs.Nodes.{Shape, Fixed, TopInput, Register, OfOne, OfTwo, OfMux, no_shape, shape_at, node_tree, trees_of, OperandsBelow}
use Rattle.net_core.specs.Builder.{Stands, HaveOneIdEach, AreShared}
use Rattle.net_core.proofs.TreeLists.{trees_length, tree_is}
use Rattle.net_core.proofs.Sharing.{below_more}
use Rattle.list_core.proofs.Listing.{got_in}
use Rattle.trim_core.specs.KeptNet.{number_of, node_of}
use Rattle.trim_table.proofs.Numbers.{number_is}

node_is : (ts : List tree.Whole) → HaveOneIdEach ts → (s : Shape) → OperandsBelow (length ts) s → node_of ts (node_tree ts s) ≡ s
node_is ts h (Fixed b) p = refl
node_is ts h (TopInput name width) p = refl
node_is ts h (Register instance name start) p = refl
node_is ts h (OfOne op a) p = ap (OfOne op) (number_is ts h a p)
node_is ts h (OfTwo op a b) p = ap₂ (OfTwo op) (number_is ts h a p.0) (number_is ts h b p.1)
node_is ts h (OfMux c a b) p = λ i. OfMux (number_is ts h c p.0 i) (number_is ts h a p.1 i) (number_is ts h b p.2 i)

-- the nodes are those of their trees
pub nodes_are : (ns : List Shape) → AreShared ns → ns ≡ map (node_of (trees_of ns)) (trees_of ns)
nodes_are ns g =
    ext_get_or no_shape ns (map (node_of (trees_of ns)) (trees_of ns)) (sym (trees_length ns) ∙ sym (length-map (trees_of ns) (node_of (trees_of ns)))) (λ i l.
    let below = subst (λ k. OperandsBelow k (shape_at ns i)) (sym (trees_length ns)) (below_more i (length ns) (omega arith) (shape_at ns i) (g.numbered.below i l)) in
    let inside : i < length (trees_of ns) = omega (arith, trees_length ns, l) in
    sym (node_is (trees_of ns) g.trees.one_id (shape_at ns i) below)
    ∙ ap (node_of (trees_of ns)) (sym (tree_is ns g.numbered i l))
    ∙ sym (get_or-map (node_of (trees_of ns)) (trees_of ns) i (tree.Const (record { width = 1; value = 0 })) no_shape inside))

-- a node that stands for a tree has its number
pub stands_at : (ns : List Shape) → AreShared ns → (id : ℕ) (t : tree.Whole) → Stands ns id t → number_of (trees_of ns) t ≡ id
stands_at ns g id t s =
    let inside : id < length (trees_of ns) = omega (arith, trees_length ns, s.within) in
    ap (number_of (trees_of ns)) (sym s.tree) ∙ number_is (trees_of ns) g.trees.one_id id inside

-- and the tree is among those of the nodes
pub stands_in : (ns : List Shape) (id : ℕ) (t : tree.Whole) → Stands ns id t → IsIn t (trees_of ns)
stands_in ns id t s =
    got_in (trees_of ns) id t
    (slice_get-get_or (trees_of ns) id (tree.Const (record { width = 1; value = 0 })) (subst (λ m. id < m) (sym (trees_length ns)) s.within) ∙ ap (λ u. Some u) s.tree)
