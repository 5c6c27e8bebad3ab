use Rattle.std.proofs.Common.{◌≡◌, false, take}
use Rattle.std.specs.List.{list_any}
use Rattle.site_core.specs.Sampled.{cycle_samples}
use Rattle.slot_sched.specs.Waiting.{armed_stops}
use Rattle.slot_sched.proofs.search.any_stops.Given as goal

abbrev pub invariant-loop-one : goal.invariant-loop-one
invariant-loop-one g l =
    list_any (armed_stops l.table (cycle_samples (g.T.Trace.samples l.trace) (g.T.Trace.cursor l.trace)) l.slot) (take l.one-index l.armed) ≡ false
