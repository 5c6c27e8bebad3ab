-- What holds of each node that a condition may have.
use Rattle.std.proofs.Common.{ℕ}
use Rattle.bv_core.specs.declared.NodeId.{NodeId}
use Rattle.bv_core.specs.declared.Ref.{Ref}
use Rattle.bv_core.specs.declared.Ref.TheVariants as ref
use Rattle.tree_core.specs.Tree.{Tree, Const, Leaf, One, Two, Mux}
use Rattle.cond_lang.specs.Names.{Name}
use Rattle.cond_lang.specs.Bound.{mapped, EachNode}

-- what holds of all nodes holds of those of a tree
pub each_always : (P : NodeId → ℕ → Type 0) → ((n : NodeId) (w : ℕ) → P n w) → (t : Tree Ref) → EachNode P t
each_always P h (Const b) = tt
each_always P h (Leaf (ref.Node n w)) = h n w
each_always P h (Leaf (ref.Const b)) = tt
each_always P h (One o a) = each_always P h a
each_always P h (Two o a b) = (each_always P h a, each_always P h b)
each_always P h (Mux c a b) = (each_always P h c, each_always P h a, each_always P h b)

-- what holds of the place of each name holds of the tree with those places
pub each_place : (P : NodeId → ℕ → Type 0) (place : Name → Ref) → ((x : Name) → EachNode P (Leaf (place x))) → (t : Tree Name) → EachNode P (mapped place t)
each_place P place h (Const b) = tt
each_place P place h (Leaf x) = h x
each_place P place h (One o a) = each_place P place h a
each_place P place h (Two o a b) = (each_place P place h a, each_place P place h b)
each_place P place h (Mux c a b) = (each_place P place h c, each_place P place h a, each_place P place h b)
