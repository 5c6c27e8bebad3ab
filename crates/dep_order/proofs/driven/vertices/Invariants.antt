use Rattle.std.proofs.Common.{◌≡◌, ℕ, [], length}
use Rattle.graph_order.specs.Graphs.{edges_of}
use Rattle.dep_order.proofs.driven.vertices.Given as goal

abbrev pub invariant-loop : goal.invariant-loop
invariant-loop l = record {
  count : length l.graph ≡ l.counter;
  none : (v : ℕ) → edges_of l.graph v ≡ [];
}
