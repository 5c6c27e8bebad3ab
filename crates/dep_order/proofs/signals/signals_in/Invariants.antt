use Rattle.std.proofs.Common.{◌≡◌, take}
use Rattle.dep_order.specs.Signals.{signals_in}
use Rattle.dep_order.proofs.signals.signals_in.Given as goal

abbrev pub invariant-loop-v : goal.invariant-loop-v
invariant-loop-v l = l.kept.items ≡ signals_in l.signals (take l.v-index l.vertices)
