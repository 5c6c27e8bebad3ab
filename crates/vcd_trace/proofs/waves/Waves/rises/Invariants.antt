use Rattle.vcd_trace.specs.Kept.{var_of}
use Rattle.vcd_trace.proofs.Times.{RisesWalked}
use Rattle.vcd_trace.proofs.waves.Waves.rises.Given as goal

abbrev pub invariant-loop-place : goal.invariant-loop-place
invariant-loop-place l = RisesWalked l.self.changes (var_of l.clock) l.places l.front l.place l.rises.items
