use Rattle.std.proofs.Common.{◌-◌, Contains, drop, length}
use Rattle.dbg_core.proofs.sampled.place_of.Given as goal

-- it is among those that are left
abbrev pub invariant-loop-place : goal.invariant-loop-place
invariant-loop-place l = Contains (drop l.place l.instances) l.instance

abbrev pub decreases-loop-place : goal.decreases-loop-place
decreases-loop-place l = length l.instances - l.place
