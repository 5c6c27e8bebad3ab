-- What is kept of a net.
use Rattle.std.specs.Prelude.{◌≡◌, ℕ, ◌<◌, List, [], ◌∷◌, length, map, Option, Some, None}
use Rattle.bv_core.specs.declared.reference.NodeId.{NodeId}
use Rattle.tree_core.specs.Tree.{Leaf, Origin, Whole}
use Rattle.list_core.specs.Lists.{IsIn}
use Rattle.exec_core.specs.Kept.{IsKept, numbered}
use Rattle.net_core.specs.Nodes.{Shape, tree_of}
use Rattle.net_core.specs.Builder.{Stands}
use Rattle.net_core.specs.Nets.{NetParts}
use Rattle.walk_net.specs.Next.{HasEach}
use Rattle.walk_net.specs.Renaming.{id_at}

-- an output's tree is among the roots
abbrev pub IsRoot : List Shape → List Whole → List ℕ × ℕ → Type 0
IsRoot ns roots output = IsIn (tree_of ns output.1) roots

-- the trees of the outputs, in order
abbrev pub output_tree : List Shape → List ℕ × ℕ → Whole
output_tree ns output = tree_of ns output.1

abbrev pub output_trees : NetParts → List Whole
output_trees net = map (output_tree net.nodes) net.outputs

-- a node got an id exactly where its tree is kept, and the id stands for that tree
abbrev pub IsKeptAs : List Whole → (Origin → Option Whole) → List Shape → Whole → Option NodeId → Type 0
IsKeptAs roots next new t None = IsKept roots next t → ⊥
IsKeptAs roots next new t (Some id) = IsKept roots next t × Stands new id.0 t

-- for each node of a net, the id that it got
pub record AreIds (roots : List Whole) (next : Origin → Option Whole) (old new : List Shape) (ids : List (Option NodeId)) : Type 0 where
  pub long : length ids ≡ length old
  pub each : (j : ℕ) → j < length old → IsKeptAs roots next new (tree_of old j) (id_at ids j)

-- an output keeps its name, and its node stands for the same tree
pub record OutputStands (old new : List Shape) (before now : List ℕ × ℕ) : Type 0 where
  pub name : now.0 ≡ before.0
  pub stands : Stands new now.1 (tree_of old before.1)

abbrev pub OutputsStand : List Shape → List Shape → List (List ℕ × ℕ) → List (List ℕ × ℕ) → Type 0
OutputsStand old new [] [] = Unit {0}
OutputsStand old new [] (o ∷ outputs) = ⊥
OutputsStand old new (b ∷ before) [] = ⊥
OutputsStand old new (b ∷ before) (o ∷ outputs) = OutputStands old new b o × OutputsStand old new before outputs

-- a register with its next value: a node that stands for the register's next-value tree
pub record NextStands (next : Origin → Option Whole) (new : List Shape) (pair : ℕ × ℕ) : Type 0 where
  pub origin : Origin
  pub tree : Whole
  pub next_is : next origin ≡ Some tree
  pub register : Stands new pair.0 (Leaf origin)
  pub stands : Stands new pair.1 tree

-- the trees are the numbered ones, in as many rounds as some list has registers that has each of them
abbrev pub AreNumbers : List Whole → (Origin → Option Whole) → List Whole → Type 0
AreNumbers roots next trees = (registers : List Origin) → HasEach next registers → trees ≡ numbered roots next (length registers)
