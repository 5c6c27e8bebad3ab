-- Walks and cycles, and that no graph has both an order and a cycle.
use Rattle.std.specs.Prelude.{ℕ, ◌≤◌, List, [], ◌∷◌}
use Rattle.list_core.specs.Lists.{EachOf, AreApart}
use Rattle.graph_order.specs.Graphs.{Graph, HasEdge}
use Rattle.graph_order.specs.Orders.{IsOrder}

-- a walk along edges from v to w, with the list between them
abbrev pub Leads : Graph → ℕ → List ℕ → ℕ → Type 0
Leads g v [] w = HasEdge g v w
Leads g v (x ∷ xs) w = HasEdge g v x × Leads g x xs w

-- different vertices, each with an edge to the next and the last to the first, which is the least
abbrev pub IsCycle : Graph → List ℕ → Type 0
IsCycle g [] = ⊥
IsCycle g (v ∷ vs) = Leads g v vs v × AreApart (v ∷ vs) × EachOf (λ w. v ≤ w) vs

-- a graph with a walk from a vertex to itself has no order; so it has not both an order and a cycle
abbrev pub WalksHaveNoOrder : Type 0
WalksHaveNoOrder = (g : Graph) (order : List ℕ) (v : ℕ) (vs : List ℕ) → IsOrder g order → Leads g v vs v → ⊥

abbrev pub CyclesHaveNoOrder : Type 0
CyclesHaveNoOrder = (g : Graph) (order cycle : List ℕ) → IsOrder g order → IsCycle g cycle → ⊥
