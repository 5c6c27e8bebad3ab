-- The next values of a net's registers, as trees.
use Rattle.std.specs.Prelude.{◌≡◌, ℕ, List, [], ◌∷◌, Option, Some, None, if◌then◌else◌, map}
use Rattle.bv_core.specs.declared.reference.NodeId.{NodeId}
use Rattle.tree_core.specs.Tree.{Const, Leaf, One, Two, Mux, Origin, Whole}
use Rattle.tree_core.specs.Fold.{same_tree, same_origin}
use Rattle.list_core.specs.Lists.{IsIn}
use Rattle.net_core.specs.Nodes.{Shape, tree_of}
use Rattle.net_core.specs.Nets.{NetParts}

-- the tree of an id, and the trees of ids
abbrev pub tree_by : List Shape → NodeId → Whole
tree_by ns id = tree_of ns id.0

abbrev pub trees_by : List Shape → List NodeId → List Whole
trees_by ns ids = map (tree_by ns) ids

-- the next-value tree of a register: that of the node that stands beside the register's
abbrev pub next_among : List Shape → List (ℕ × ℕ) → Origin → Option Whole
next_among ns [] o = None
next_among ns (pair ∷ pairs) o = if same_tree same_origin (Leaf o) (tree_of ns pair.0) then Some (tree_of ns pair.1) else next_among ns pairs o

abbrev pub next_whole : NetParts → Origin → Option Whole
next_whole net o = next_among net.nodes net.nexts o

-- that of a tree, if it is a register
abbrev pub next_tree : (Origin → Option Whole) → Whole → Option Whole
next_tree next (Const b) = None
next_tree next (Leaf o) = next o
next_tree next (One op a) = None
next_tree next (Two op a b) = None
next_tree next (Mux c a b) = None

-- each register that has a next value is among these
abbrev pub HasEach : (Origin → Option Whole) → List Origin → Type 0
HasEach next registers = (o : Origin) (t : Whole) → next o ≡ Some t → IsIn o registers
