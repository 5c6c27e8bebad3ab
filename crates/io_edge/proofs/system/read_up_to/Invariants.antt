use Rattle.std.proofs.Common.{◌≤◌, length}
use Rattle.std.specs.Io.KnownBytes.{Consumes}
use Rattle.io_edge.proofs.system.read_up_to.Given as goal

-- what was kept is what was taken from the source, and no more than is allowed
abbrev pub invariant-loop : goal.invariant-loop
invariant-loop g l =
    Consumes (g.R.Read.remaining l.initial.source) (g.R.Read.remaining l.source) l.bytes.items × (length l.bytes.items ≤ l.most)
