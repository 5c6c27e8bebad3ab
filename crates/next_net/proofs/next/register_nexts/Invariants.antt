use Rattle.std.proofs.Common.{map, take}
use Rattle.net_core.specs.Nets.{nexts_of}
use Rattle.term_net.specs.Growth.{Grown}
use Rattle.ssa_core.specs.Processes.{lists_of}
use Rattle.ssa_nodes.specs.Parts.{HasState}
use Rattle.next_net.specs.Registers.{register_as}
use Rattle.next_net.specs.Nexts.{AreNexts}
use Rattle.next_net.proofs.next.register_nexts.Given as goal

abbrev pub invariant-loop-register : goal.invariant-loop-register
invariant-loop-register l = record {
  state : HasState l.parts l.builder l.nodes (lists_of l.memos);
  grown : Grown l.initial.builder l.builder;
  nexts : AreNexts l.parts l.builder (map register_as (take l.register-index l.registers)) (nexts_of l.nexts.items);
}
