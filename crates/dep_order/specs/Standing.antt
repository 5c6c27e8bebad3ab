-- Which versions stand for which trees of a block.
use Rattle.std.specs.Prelude.{◌≡◌, ℕ, ◌<◌, List, [], ◌∷◌, ◌++◌, ◌⊎◌, Option, Some, None}
use Rattle.tree_core.specs.Tree.{Tree, Const, Leaf, One, Two, Mux}
use Rattle.exec_core.specs.Block.{Name, Expr}
use Rattle.exec_core.specs.Leaves.{EachLeaf}
use Rattle.list_core.specs.Lists.{EachOf}
use Rattle.graph_order.specs.Graphs.{Graph}
use Rattle.dep_order.specs.Reaching.{ReachedFrom}
use Rattle.place_core.specs.Numbering.{Numbers}

-- a fact of some leaf
abbrev pub SomeLeaf : {A : Type 0} → (A → Type 0) → Tree A → Type 0
SomeLeaf P (Const b) = ⊥
SomeLeaf P (Leaf x) = P x
SomeLeaf P (One op a) = SomeLeaf P a
SomeLeaf P (Two op a b) = SomeLeaf P a ⊎ SomeLeaf P b
SomeLeaf P (Mux c a b) = SomeLeaf P c ⊎ (SomeLeaf P a ⊎ SomeLeaf P b)

-- vertices of a graph stand for a tree: from them its leaves are reached through versions alone, those that have a number, and nothing else
pub record StandFor {A : Type 0} (signals : ℕ) (g : Graph) (number : A → Option ℕ) (vs : List ℕ) (t : Tree A) : Type 0 where
  pub leaves : EachLeaf (λ x. (n : ℕ) → number x ≡ Some n → ReachedFrom signals g vs n) t
  pub nothing_else : (w : ℕ) → ReachedFrom signals g vs w → SomeLeaf (λ x. number x ≡ Some w) t

-- a tree, where there is one, with vertices that stand for it
abbrev pub Stand : ℕ → Graph → Numbers → Option (List ℕ) → Option (Tree Name) → Type 0
Stand signals g number None None = Unit {0}
Stand signals g number None (Some t) = ⊥
Stand signals g number (Some vs) None = ⊥
Stand signals g number (Some vs) (Some t) = StandFor signals g number vs t

-- vertices of a graph of n vertices
abbrev pub AreVertices : ℕ → Option (List ℕ) → Type 0
AreVertices n None = Unit {0}
AreVertices n (Some vs) = EachOf (λ v. v < n) vs

-- a list of a vertex, if there is one
abbrev pub listed : Option ℕ → List ℕ
listed None = []
listed (Some v) = v ∷ []

-- the vertices of the signals that an expression over the names of an instance reads
abbrev pub read_by : Expr → Numbers → List ℕ
read_by (Const bits) number = []
read_by (Leaf x) number = listed (number x)
read_by (One op a) number = read_by a number
read_by (Two op a b) number = read_by a number ++ read_by b number
read_by (Mux c a b) number = read_by c number ++ (read_by a number ++ read_by b number)
