-- Nodes of one net that stand for trees of another.
use Rattle.std.specs.Prelude.{◌≡◌, ℕ, ◌<◌, List, [], ◌∷◌, ◌++◌, length, nat_lt, if◌then◌else◌, Option, Some, None, slice_index_or}
use Rattle.bv_core.specs.declared.reference.NodeId.{NodeId}
use Rattle.tree_core.specs.Tree as tree
use Rattle.list_core.specs.Lists.{EachOf, IsIn}
use Rattle.net_core.specs.Nodes.{Shape, Fixed, TopInput, Register, OfOne, OfTwo, OfMux, trees_of, tree_of}
use Rattle.net_core.specs.Builder.{Stands, AreShared}
use Rattle.walk_net.specs.Next.{trees_by}

-- the id that a node got, if it did
abbrev pub id_at : List (Option NodeId) → ℕ → Option NodeId
id_at ids j = slice_index_or ids j None

-- it stands for the tree, or the tree is not there
abbrev pub IsIdOf : List Shape → tree.Whole → Option NodeId → Type 0
IsIdOf new t None = IsIn t (trees_of new) → ⊥
IsIdOf new t (Some id) = Stands new id.0 t

-- a node of the net
abbrev pub IsNode : List Shape → NodeId → Type 0
IsNode ns id = id.0 < length ns

-- new nodes are copies of old ones: which old node got which id, and of which old node each new one is
pub record AreCopies (old new : List Shape) (ids : List (Option NodeId)) (origins : List NodeId) : Type 0 where
  pub shared : AreShared new
  pub long : length ids ≡ length old
  pub each : (j : ℕ) → j < length old → IsIdOf new (tree_of old j) (id_at ids j)
  pub trees : trees_by old origins ≡ trees_of new
  pub nodes : EachOf (IsNode old) origins

-- one more old node that was copied, if the new nodes are more than those so far
abbrev pub with_origin : ℕ → NodeId → List NodeId → List NodeId
with_origin count id origins = if nat_lt (length origins) count then origins ++ id ∷ [] else origins

-- the number that an operand got
abbrev pub number : Option NodeId → ℕ
number None = 0
number (Some id) = id.0

-- the tree of a node over the nodes that its operands got
abbrev pub copied_tree : List Shape → List (Option NodeId) → Shape → tree.Whole
copied_tree new ids (Fixed b) = tree.Const b
copied_tree new ids (TopInput name width) = tree.Leaf (tree.Input name width)
copied_tree new ids (Register instance name start) = tree.Leaf (tree.Register instance name start)
copied_tree new ids (OfOne op a) = tree.One op (tree_of new (number (id_at ids a)))
copied_tree new ids (OfTwo op a b) = tree.Two op (tree_of new (number (id_at ids a))) (tree_of new (number (id_at ids b)))
copied_tree new ids (OfMux c a b) = tree.Mux (tree_of new (number (id_at ids c))) (tree_of new (number (id_at ids a))) (tree_of new (number (id_at ids b)))

-- an operand got a node
pub record HasCopy (new : List Shape) (ids : List (Option NodeId)) (a : ℕ) : Type 0 where
  pub id : NodeId
  pub place : a < length ids
  pub is : id_at ids a ≡ Some id
  pub within : id.0 < length new

abbrev pub OperandsHaveCopies : List Shape → List (Option NodeId) → Shape → Type 0
OperandsHaveCopies new ids (Fixed b) = Unit {0}
OperandsHaveCopies new ids (TopInput name width) = Unit {0}
OperandsHaveCopies new ids (Register instance name start) = Unit {0}
OperandsHaveCopies new ids (OfOne op a) = HasCopy new ids a
OperandsHaveCopies new ids (OfTwo op a b) = HasCopy new ids a × HasCopy new ids b
OperandsHaveCopies new ids (OfMux c a b) = HasCopy new ids c × HasCopy new ids a × HasCopy new ids b
