use Rattle.elab_walk.proofs.ValueSteps.{DistinctSo}
use Rattle.elab_walk.proofs.values.names_of.Given as goal

abbrev pub invariant-loop-param : goal.invariant-loop-param
invariant-loop-param l = DistinctSo l.found.line l.param-items l.param-index l.names
