-- Orders: each vertex stands after all that it has an edge to.
use Rattle.std.specs.Prelude.{ℕ, ◌<◌, List, [], ◌∷◌, ◌++◌, length}
use Rattle.list_core.specs.Lists.{EachOf, IsIn}
use Rattle.graph_order.specs.Graphs.{Graph, edges_of}

-- no vertex of the list stands there or before it a second time, and those that it has an edge to stand before it; `before` is in front of the list
abbrev pub StandsAfter : Graph → List ℕ → List ℕ → Type 0
StandsAfter g before [] = Unit {0}
StandsAfter g before (v ∷ vs) = (IsIn v before → ⊥) × EachOf (λ w. IsIn w before) (edges_of g v) × StandsAfter g (before ++ v ∷ []) vs

pub record IsOrder (g : Graph) (order : List ℕ) : Type 0 where
  pub vertices : EachOf (λ v. v < length g) order
  pub in_order : StandsAfter g [] order
  pub all : (v : ℕ) → v < length g → IsIn v order
