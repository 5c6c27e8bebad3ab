use Rattle.trace_world.proofs.Fitting.{fitting_traces_sample}
use Rattle.trace_world.proofs.laws.fitting_traces_sample.Goals as goal

pub returns : goal.returns
returns c = fitting_traces_sample
