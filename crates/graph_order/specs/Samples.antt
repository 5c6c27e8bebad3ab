-- Small graphs, worked by hand.
use Rattle.std.specs.Prelude.{[], ◌∷◌}
use Rattle.graph_order.specs.Graphs.{Graph}
use Rattle.graph_order.specs.Orders.{IsOrder}
use Rattle.graph_order.specs.Cycles.{IsCycle}

-- 0 to 2 and 1, 1 to 2, 2 to none
abbrev pub ladder : Graph
ladder = (2 ∷ 1 ∷ []) ∷ (2 ∷ []) ∷ [] ∷ []

abbrev pub ladder_has_an_order : Type 0
ladder_has_an_order = IsOrder ladder (2 ∷ 1 ∷ 0 ∷ [])

-- 0 to 2, 1 to 3 and 2, 2 to 3, 3 to 1
abbrev pub ring : Graph
ring = (2 ∷ []) ∷ (3 ∷ 2 ∷ []) ∷ (3 ∷ []) ∷ (1 ∷ []) ∷ []

abbrev pub ring_has_a_short_cycle : Type 0
ring_has_a_short_cycle = IsCycle ring (1 ∷ 3 ∷ [])

abbrev pub ring_has_a_long_cycle : Type 0
ring_has_a_long_cycle = IsCycle ring (1 ∷ 2 ∷ 3 ∷ [])

-- a vertex with an edge to itself
abbrev pub loop_is_a_cycle : Type 0
loop_is_a_cycle = IsCycle ((0 ∷ []) ∷ []) (0 ∷ [])
