use Rattle.std.proofs.Common.{◌≡◌, ◌++◌, drop}
use Rattle.elab_core.specs.Elab.{child_outputs}
use Rattle.elab_walk.proofs.gather.add_outputs.Given as goal

abbrev pub invariant-loop-signal : goal.invariant-loop-signal
invariant-loop-signal l = l.signals.items ++ child_outputs l.line l.at l.child (drop l.signal-index l.of) ≡ l.initial.signals.items ++ child_outputs l.line l.at l.child l.of
