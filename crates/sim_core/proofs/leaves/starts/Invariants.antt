use Rattle.std.proofs.Common.{◌≡◌, ◌++◌, drop}
use Rattle.sim_core.specs.Leaves.{gathered, start_in, starts_of}
use Rattle.sim_core.proofs.leaves.starts.Given as goal

-- those so far, and those of what is left
abbrev pub invariant-loop-id : goal.invariant-loop-id
invariant-loop-id l = l.found.items ++ gathered start_in (drop l.id l.net.nodes) ≡ starts_of l.net.nodes
