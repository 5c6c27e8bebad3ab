use Rattle.std.proofs.Common.{◌∙◌, sym}
use Rattle.elab_walk.proofs.ValueSteps.{top_end}
use Rattle.elab_walk.proofs.values.top_arguments.Goals as goal

pub returns : goal.returns
returns c = sym c.loop-name.invariant ∙ top_end c.args.names.now c.args.all.now c.loop-name.name-index c.loop-name.given c.loop-name-test.false
