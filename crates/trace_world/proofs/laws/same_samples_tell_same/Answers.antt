use Rattle.trace_world.proofs.Fitting.{same_samples_tell_same}
use Rattle.trace_world.proofs.laws.same_samples_tell_same.Goals as goal

pub returns : goal.returns
returns c = same_samples_tell_same
