use Rattle.std.proofs.Common.{◌≡◌, length, take}
use Rattle.term_net.specs.Growth.{Grown}
use Rattle.ssa_core.specs.Processes.{lists_of}
use Rattle.ssa_nodes.specs.Parts.{HasState}
use Rattle.ssa_nodes.specs.Driving.{GivenHave}
use Rattle.ssa_nodes.proofs.Driven.{PairsHave}
use Rattle.ssa_nodes.proofs.resolve.resolve_all.Given as goal

abbrev pub invariant-loop-pair : goal.invariant-loop-pair
invariant-loop-pair l = record {
  long : length l.nodes ≡ l.parts.count;
  state : HasState l.parts l.builder l.nodes (lists_of l.memos);
  grown : Grown l.initial.builder l.builder;
  given : GivenHave l.parts l.nodes;
  pairs : PairsHave l.parts l.nodes (take l.pair-index l.parts.order.now);
}
