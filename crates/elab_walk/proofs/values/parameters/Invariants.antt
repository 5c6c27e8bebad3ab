use Rattle.elab_walk.proofs.ValueSteps.{DoneSo}
use Rattle.elab_walk.proofs.values.parameters.Given as goal

abbrev pub invariant-loop-param : goal.invariant-loop-param
invariant-loop-param l = DoneSo l.found.line l.param-items l.given l.param-index l.done
