use Rattle.std.proofs.Common.{◌≡◌, take, map, length}
use Rattle.sim_core.specs.Steps.{bits_at}
use Rattle.sim_hist.proofs.columns.pick.Given as goal

-- those so far
abbrev pub invariant-loop-place : goal.invariant-loop-place
invariant-loop-place l = (length l.inputs ≡ length l.columns) × (take l.place l.inputs ≡ map (bits_at l.row) (take l.place l.columns))
