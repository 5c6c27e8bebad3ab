-- A graph in two flat lists: where each vertex's edges stand, and what they lead to.
use Rattle.std.specs.Prelude.{ℕ, ◌≤◌, ◌<◌, ◌^◌, List, length, map, slice_range}
use Rattle.list_core.specs.Lists.{EachOf}
use Rattle.graph_order.specs.Graphs.{Graph, IsGraph}
use Rattle.graph_order.specs.declared.graph.Span.{Span}

abbrev pub edges_in : List ℕ → Span → List ℕ
edges_in ends s = slice_range ends s.first s.past

abbrev pub graph_of : List ℕ → List Span → Graph
graph_of ends spans = map (edges_in ends) spans

abbrev pub IsWithin : ℕ → Span → Type 0
IsWithin n s = (s.first ≤ s.past) × (s.past ≤ n)

pub record IsFlat (ends : List ℕ) (spans : List Span) : Type 0 where
  pub within : EachOf (IsWithin (length ends)) spans
  pub edges : IsGraph (graph_of ends spans)
  pub few : length spans < 2 ^ 32
