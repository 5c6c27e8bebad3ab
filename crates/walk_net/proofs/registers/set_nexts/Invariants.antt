use Rattle.std.proofs.Common.{◌≡◌, drop, length}
use Rattle.list_core.specs.Lists.{EachOf}
use Rattle.walk_net.specs.Registers.{with_nexts, HasPlace}
use Rattle.walk_net.proofs.registers.set_nexts.Given as goal

abbrev pub invariant-loop-register : goal.invariant-loop-register
invariant-loop-register l = record {
  places : EachOf (HasPlace (length l.ids)) (drop l.register-index l.nexts);
  set : with_nexts l.ids (drop l.register-index l.nexts) ≡ with_nexts l.initial.ids l.nexts;
}
