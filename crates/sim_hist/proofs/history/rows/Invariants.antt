use Rattle.std.proofs.Common.{length, map}
use Rattle.sim_hist.specs.Recalled.{AreLong}
use Rattle.sim_hist.proofs.history.rows.Given as goal

abbrev pub invariant-loop-i : goal.invariant-loop-i
invariant-loop-i l = AreLong (map (λ row. row.items) l.rows.items) l.i (length l.row)
