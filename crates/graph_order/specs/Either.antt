-- That each graph has an order, or a cycle.
use Rattle.std.specs.Prelude.{ℕ, ◌⊎◌, List}
use Rattle.graph_order.specs.Graphs.{Graph, IsGraph}
use Rattle.graph_order.specs.Orders.{IsOrder}
use Rattle.graph_order.specs.Cycles.{IsCycle}

pub record HasOrder (g : Graph) : Type 0 where
  pub order : List ℕ
  pub is_order : IsOrder g order

pub record HasCycle (g : Graph) : Type 0 where
  pub cycle : List ℕ
  pub is_cycle : IsCycle g cycle

-- where each edge leads to a vertex
abbrev pub OrderOrCycle : Type 0
OrderOrCycle = (g : Graph) → IsGraph g → HasOrder g ⊎ HasCycle g
