use Rattle.vcd_trace.proofs.NamedAlike as alike
use Rattle.vcd_trace.proofs.laws.same_named_tell_same.Goals as goal

pub returns : goal.returns
returns c = alike.same_named_tell_same
