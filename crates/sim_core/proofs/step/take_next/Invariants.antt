use Rattle.std.proofs.Common.{◌≡◌, take, map, length}
use Rattle.sim_core.specs.Steps.{bits_at}
use Rattle.sim_core.proofs.step.take_next.Given as goal

-- those so far
abbrev pub invariant-loop-place : goal.invariant-loop-place
invariant-loop-place l = (length l.registers ≡ length l.sources) × (take l.place l.registers ≡ map (bits_at l.values) (take l.place l.sources))
