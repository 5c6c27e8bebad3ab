use Rattle.std.proofs.Common.{ℕ, ◌≤◌, length, take}
use Rattle.graph_order.specs.Graphs.{IsGraph}
use Rattle.names.specs.Known.{has}
use Rattle.names.specs.Maps.{value_of}
use Rattle.place_core.specs.Assigned.{names_at}
use Rattle.dep_order.specs.Blocks.{AreFollowed, EndsStand, Grown, version_of}
use Rattle.dep_order.proofs.block.end_versions.Given as goal

-- the names so far
abbrev pub invariant-loop-name : goal.invariant-loop-name
invariant-loop-name l = record {
  grown : Grown l.initial.graph l.graph;
  graph : IsGraph l.graph;
  ends : (base : ℕ) → base ≤ length l.initial.graph → AreFollowed base l.initial.graph (value_of l.numbers) l.terms.terms (length l.terms.terms) l.vertices →
      EndsStand base l.graph (value_of l.numbers) (has (names_at (take l.name-index l.names))) l.terms (version_of l.ends);
}
