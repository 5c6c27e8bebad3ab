use Rattle.std.proofs.Common.{◌≡◌, [], map, drop}
use Rattle.gen_tree.specs.View.{param_of}
use Rattle.elab_walk.specs.Values.{arguments_by}
use Rattle.elab_walk.proofs.values.arguments.Given as goal

abbrev pub invariant-loop-arg : goal.invariant-loop-arg
invariant-loop-arg l = arguments_by l.line l.scope l.names (map param_of (drop l.arg-index l.args)) l.given ≡ arguments_by l.line l.scope l.names (map param_of l.args) []
