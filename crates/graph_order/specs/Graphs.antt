-- Directed graphs. The vertices are the numbers below the length of the list, which has for each those that it has an edge to.
use Rattle.std.specs.Prelude.{ℕ, ◌<◌, List, [], length, slice_index_or}
use Rattle.list_core.specs.Lists.{EachOf, IsIn}

abbrev pub Graph : Type 0
Graph = List (List ℕ)

-- those that a vertex has an edge to
abbrev pub edges_of : Graph → ℕ → List ℕ
edges_of g v = slice_index_or g v []

-- there is an edge from v to w
abbrev pub HasEdge : Graph → ℕ → ℕ → Type 0
HasEdge g v w = IsIn w (edges_of g v)

-- each edge leads to a vertex
abbrev pub IsGraph : Graph → Type 0
IsGraph g = (v : ℕ) → EachOf (λ w. w < length g) (edges_of g v)
