-- Numbered nodes, and the tree that each stands for.
use Rattle.std.specs.Prelude.{ℕ, ◌<◌, Bool, false, ◌&&◌, ◌==◌, bytes_eq, List, [], ◌∷◌, ◌++◌, length, slice_index_or}
use Rattle.bv_core.specs.Value.{Bits}
use Rattle.bv_core.specs.declared.operators.Op1.{Op1}
use Rattle.bv_core.specs.declared.operators.Op2.{Op2}
use Rattle.tree_core.specs.Tree as tree
use Rattle.tree_core.specs.Width.{tree_width}
use Rattle.tree_core.specs.Fold.{same_op1, same_op2, same_bits}
use Rattle.net_core.specs.declared.node.Node.{Node}
use Rattle.net_core.specs.declared.node.Node.TheVariants.{Const, Input, Reg, One, Two, Mux}

-- a node as contracts see it: a constant, a top input, a register, or an operator on the nodes of these numbers
pub data Shape : Type 0 where
  Fixed : Bits → Shape
  TopInput : (name : List ℕ) (width : ℕ) → Shape
  Register : (instance name : List ℕ) (start : Bits) → Shape
  OfOne : Op1 → ℕ → Shape
  OfTwo : Op2 → ℕ → ℕ → Shape
  OfMux : ℕ → ℕ → ℕ → Shape

abbrev pub shape_of : Node → Shape
shape_of (Const b) = Fixed b
shape_of (Input name width) = TopInput name width
shape_of (Reg instance name start) = Register instance name start
shape_of (One op a) = OfOne op a.0
shape_of (Two op a b) = OfTwo op a.0 b.0
shape_of (Mux c a b) = OfMux c.0 a.0 b.0

-- whether two nodes are the same
abbrev pub same_shape : Shape → Shape → Bool
same_shape (Fixed a) (Fixed b) = same_bits a b
same_shape (TopInput n v) (TopInput m w) = bytes_eq n m && v == w
same_shape (Register i n s) (Register j m t) = bytes_eq i j && (bytes_eq n m && same_bits s t)
same_shape (OfOne o a) (OfOne p b) = same_op1 o p && a == b
same_shape (OfTwo o a b) (OfTwo p c d) = same_op2 o p && (a == c && b == d)
same_shape (OfMux a b c) (OfMux d e f) = a == d && (b == e && c == f)
same_shape _ _ = false

-- a node of no net
abbrev pub no_shape : Shape
no_shape = Fixed (record { width = 1; value = 0 })

abbrev pub shape_at : List Shape → ℕ → Shape
shape_at ns i = slice_index_or ns i no_shape

-- the tree of a number, of a list of trees
abbrev pub tree_at : List tree.Whole → ℕ → tree.Whole
tree_at ts i = slice_index_or ts i (tree.Const (record { width = 1; value = 0 }))

-- a node's tree, where its operands have these
abbrev pub node_tree : List tree.Whole → Shape → tree.Whole
node_tree ts (Fixed b) = tree.Const b
node_tree ts (TopInput name width) = tree.Leaf (tree.Input name width)
node_tree ts (Register instance name start) = tree.Leaf (tree.Register instance name start)
node_tree ts (OfOne op a) = tree.One op (tree_at ts a)
node_tree ts (OfTwo op a b) = tree.Two op (tree_at ts a) (tree_at ts b)
node_tree ts (OfMux c a b) = tree.Mux (tree_at ts c) (tree_at ts a) (tree_at ts b)

-- the trees ts, and then one for each node, over those before it
unfoldable pub trees_from : List tree.Whole → List Shape → List tree.Whole
trees_from ts [] = ts
trees_from ts (n ∷ ns) = trees_from (ts ++ node_tree ts n ∷ []) ns

-- the tree that each node stands for, in the order of the nodes
abbrev pub trees_of : List Shape → List tree.Whole
trees_of ns = trees_from [] ns

-- the tree that a number stands for, and its width
abbrev pub tree_of : List Shape → ℕ → tree.Whole
tree_of ns i = tree_at (trees_of ns) i

abbrev pub width_at : List Shape → ℕ → ℕ
width_at ns i = tree_width (tree_of ns i)

-- the operands of a node are numbered below this
abbrev pub OperandsBelow : ℕ → Shape → Type 0
OperandsBelow k (Fixed b) = Unit {0}
OperandsBelow k (TopInput name width) = Unit {0}
OperandsBelow k (Register instance name start) = Unit {0}
OperandsBelow k (OfOne op a) = a < k
OperandsBelow k (OfTwo op a b) = (a < k) × (b < k)
OperandsBelow k (OfMux c a b) = (c < k) × (a < k) × (b < k)

-- the operands of each node are numbered below it
pub record AreNumbered (ns : List Shape) : Type 0 where
  pub below : (j : ℕ) → j < length ns → OperandsBelow j (shape_at ns j)
