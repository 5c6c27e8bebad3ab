use Rattle.std.proofs.Common.{◌≡◌}
use Rattle.tree_core.specs.Tree.{Input}
use Rattle.sim_hist.proofs.Placing.{IsSought}
use Rattle.sim_hist.proofs.columns.place_of.Given as goal

-- the port is among those that are left
abbrev pub invariant-loop-port : goal.invariant-loop-port
invariant-loop-port l = (l.place ≡ l.port-index) × IsSought l.ports (Input l.name l.width) l.port-index
