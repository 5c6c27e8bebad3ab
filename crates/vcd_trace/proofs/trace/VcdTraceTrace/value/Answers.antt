use Rattle.std.proofs.Common.{◌≡◌, Some, rules}
use Rattle.std.specs.List.{slice_get}
use Rattle.vcd_trace.proofs.trace.VcdTraceTrace.value.Goals as goal

pub value_before-requires-clause-sampled : goal.value_before-requires-clause-sampled
value_before-requires-clause-sampled c =
    let there : slice_get c.self.inside.signals.items c.args.n.0 ≡ Some (Some c.in-Some-signal_at.found) = search rules in
    c.self.invariant.sampled c.args.n.0 c.in-Some-signal_at.found there
