use Rattle.sim_hist.proofs.Placing.{ArePlaced}
use Rattle.sim_hist.proofs.columns.columns.Given as goal

-- the columns so far, and the inputs that are left
abbrev pub invariant-loop-id : goal.invariant-loop-id
invariant-loop-id l = ArePlaced l.net l.fn.ports l.id l.found.items
