use Rattle.std.proofs.Common.{◌-◌, length}
use Rattle.vcd_trace.specs.Kept.{AreEarly}
use Rattle.vcd_trace.proofs.waves.Waves.passed.Given as goal

abbrev pub invariant-loop-front : goal.invariant-loop-front
invariant-loop-front l = AreEarly l.self.changes l.places l.time l.front

abbrev pub decreases-loop-front : goal.decreases-loop-front
decreases-loop-front l = length l.places - l.front
