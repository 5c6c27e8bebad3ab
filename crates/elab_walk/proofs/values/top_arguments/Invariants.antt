use Rattle.std.proofs.Common.{◌≡◌, [], drop}
use Rattle.elab_walk.specs.Values.{top_arguments_by}
use Rattle.elab_walk.proofs.values.top_arguments.Given as goal

abbrev pub invariant-loop-name : goal.invariant-loop-name
invariant-loop-name l = top_arguments_by l.names (drop l.name-index l.all) l.given ≡ top_arguments_by l.names l.all []
