-- Numbered terms of a block, and the tree over the names of an instance that each stands for.
use Rattle.std.specs.Prelude.{◌≡◌, ℕ, ◌+◌, ◌<◌, List, [], ◌∷◌, ◌++◌, length, Option, Some, None, slice_index_or}
use Rattle.bv_core.specs.declared.operators.Op1.TheVariants as op1
use Rattle.tree_core.specs.Tree as tree
use Rattle.tree_core.specs.Tree.{Tree}
use Rattle.exec_core.specs.Block.{Name}
use Rattle.design_exec.specs.Processes.{unary_of, binary_of}
use Rattle.design_core.specs.Widths.{bits}
use Rattle.block_net.specs.declared.term.Term.{Term}
use Rattle.block_net.specs.declared.term.Term.TheVariants.{Leaf, Value, Unary, Binary, Mux, Zext, Slice}
use Rattle.block_net.specs.declared.term.TermId.{TermId}

-- a tree of no term
abbrev pub no_tree : Tree Name
no_tree = tree.Const (record { width = 1; value = 0 })

-- the tree of a number, of a list of trees
abbrev pub tree_at : List (Tree Name) → ℕ → Tree Name
tree_at ts i = slice_index_or ts i no_tree

-- a term's tree, where its operands have these
abbrev pub term_tree : List (Tree Name) → Term → Tree Name
term_tree ts (Leaf x) = tree.Leaf x
term_tree ts (Value w v) = tree.Const (record { width = bits w; value = v })
term_tree ts (Unary op a) = tree.One (unary_of op) (tree_at ts a.0)
term_tree ts (Binary op a b) = tree.Two (binary_of op) (tree_at ts a.0) (tree_at ts b.0)
term_tree ts (Mux c a b) = tree.Mux (tree_at ts c.0) (tree_at ts a.0) (tree_at ts b.0)
term_tree ts (Zext a w) = tree.One (op1.Zext (bits w)) (tree_at ts a.0)
term_tree ts (Slice a h l) = tree.One (op1.Slice (bits h) (bits l)) (tree_at ts a.0)

-- the trees ts, and then one for each term, over those before it
unfoldable pub trees_from : List (Tree Name) → List Term → List (Tree Name)
trees_from ts [] = ts
trees_from ts (n ∷ ns) = trees_from (ts ++ term_tree ts n ∷ []) ns

-- the tree that each term stands for, in the order of the terms
abbrev pub trees_of : List Term → List (Tree Name)
trees_of ns = trees_from [] ns

-- the tree that an id stands for; none stands for none
abbrev pub tree_for : List Term → Option TermId → Option (Tree Name)
tree_for ns None = None
tree_for ns (Some id) = Some (tree_at (trees_of ns) id.0)

-- an id, if there is one, is that of a term
abbrev pub IsWithin : List Term → Option TermId → Type 0
IsWithin ns None = Unit {0}
IsWithin ns (Some id) = id.0 < length ns

-- an id that stands for this tree, or none for none
pub record Stands (ns : List Term) (id : Option TermId) (t : Option (Tree Name)) : Type 0 where
  pub within : IsWithin ns id
  pub is : tree_for ns id ≡ t

-- the operands of a term are numbered below this
abbrev pub OperandsBelow : ℕ → Term → Type 0
OperandsBelow k (Leaf x) = Unit {0}
OperandsBelow k (Value w v) = Unit {0}
OperandsBelow k (Unary op a) = a.0 < k
OperandsBelow k (Binary op a b) = (a.0 < k) × (b.0 < k)
OperandsBelow k (Mux c a b) = (c.0 < k) × (a.0 < k) × (b.0 < k)
OperandsBelow k (Zext a w) = a.0 < k
OperandsBelow k (Slice a h l) = a.0 < k

-- the operands of each term are numbered below it; the first of these has the number k
abbrev pub AreFrom : ℕ → List Term → Type 0
AreFrom k [] = Unit {0}
AreFrom k (n ∷ ns) = OperandsBelow k n × AreFrom (k + 1) ns

abbrev pub AreNumbered : List Term → Type 0
AreNumbered ns = AreFrom 0 ns

-- a list of terms that begins with another
pub record Extends (old new : List Term) : Type 0 where
  pub more : List Term
  pub is : new ≡ old ++ more
