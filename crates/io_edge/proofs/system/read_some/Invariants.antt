use Rattle.std.specs.Io.KnownBytes.{Keeps}
use Rattle.io_edge.proofs.system.read_some.Given as goal

-- nothing was taken from the source yet
abbrev pub invariant-loop : goal.invariant-loop
invariant-loop g l = Keeps (g.R.Read.remaining l.initial.source) (g.R.Read.remaining l.source)
