-- What a builder keeps, and what an application adds.
use Rattle.std.specs.Prelude.{◌≡◌, ℕ, ◌<◌, ◌≤◌, Bool, List, [], ◌∷◌, ◌++◌, length, map, slice_get, Option, Some, None, if◌then◌else◌}
use Rattle.std.specs.List.{list_any}
use Rattle.tree_core.specs.Tree.{Whole}
use Rattle.tree_core.specs.Width.{IsWhole}
use Rattle.tree_core.specs.Fold.{same_tree, same_origin, folded}
use Rattle.bv_core.specs.Value.{Bits}
use Rattle.net_core.specs.declared.entry.Entry.{Entry}
use Rattle.net_core.specs.Nodes.{Shape, Fixed, TopInput, Register, OfOne, OfTwo, OfMux, shape_of, tree_at, trees_of, tree_of, width_at, AreNumbered}

-- whether a tree is among these
abbrev pub has_tree : Whole → List Whole → Bool
has_tree t ts = list_any (same_tree same_origin t) ts

-- the trees with one more, which goes last unless it is among them
abbrev pub with_tree : Whole → List Whole → List Whole
with_tree t ts = if has_tree t ts then ts else ts ++ t ∷ []

-- an id of the builder stands for this tree
pub record Stands (ns : List Shape) (id : ℕ) (t : Whole) : Type 0 where
  pub within : id < length ns
  pub tree : tree_of ns id ≡ t

-- equal trees have one id
pub record HaveOneIdEach (ts : List Whole) : Type 0 where
  pub one : (i j : ℕ) → i < length ts → j < length ts → tree_at ts i ≡ tree_at ts j → i ≡ j

-- each tree is well formed and folded, and equal trees have one id
pub record AreFolded (ts : List Whole) : Type 0 where
  pub whole : (i : ℕ) → i < length ts → IsWhole (tree_at ts i)
  pub folded_already : (i : ℕ) → i < length ts → folded (tree_at ts i) ≡ tree_at ts i
  pub one_id : HaveOneIdEach ts

-- the nodes of a builder: their operands are numbered below them, and their trees are folded
pub record AreShared (ns : List Shape) : Type 0 where
  pub numbered : AreNumbered ns
  pub trees : AreFolded (trees_of ns)

-- the ids of before stand for the same trees
pub record Keeps (old new : List Shape) : Type 0 where
  pub longer : length old ≤ length new
  pub same : (i : ℕ) → i < length old → tree_of new i ≡ tree_of old i

-- the trees of before, in their places, and this one
abbrev pub Adds : List Shape → List Shape → Whole → Type 0
Adds old new t = trees_of new ≡ with_tree t (trees_of old)

-- the nodes of these entries, as contracts see them
abbrev pub shapes_of : List Entry → List Shape
shapes_of es = map (λ (e : Entry). shape_of e.node) es

-- the entries of a builder: its nodes, each with its width
pub record AreEntries (es : List Entry) : Type 0 where
  pub shared : AreShared (shapes_of es)
  pub widths : (j : ℕ) (e : Entry) → slice_get es j ≡ Some e → e.width ≡ width_at (shapes_of es) j

-- the value of a node that is a constant
abbrev pub constant_shape : Shape → Option Bits
constant_shape (Fixed b) = Some b
constant_shape (TopInput name width) = None
constant_shape (Register instance name start) = None
constant_shape (OfOne op a) = None
constant_shape (OfTwo op a b) = None
constant_shape (OfMux c a b) = None
