use Rattle.std.proofs.Common.{◌≡◌, length, take}
use Rattle.design_exec.specs.Processes.{processes_of}
use Rattle.ssa_nodes.specs.State.{AllOverGivens}
use Rattle.ssa_nodes.specs.Parts.{HasSignals, design_in}
use Rattle.ssa_nodes.proofs.GivenPlaces.{HaveNodes}
use Rattle.ssa_nodes.proofs.place.place_givens.Given as goal

abbrev pub invariant-loop-given : goal.invariant-loop-given
invariant-loop-given l = record {
  long : length l.nodes ≡ l.parts.count;
  signals : HasSignals l.parts l.builder l.nodes;
  over : AllOverGivens (processes_of (design_in l.parts)) l.builder;
  have : HaveNodes l.parts l.nodes (take l.given-index l.given-items);
}
