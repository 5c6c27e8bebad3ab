use Rattle.std.proofs.Common.{◌≡◌, false, take}
use Rattle.std.specs.List.{list_any}
use Rattle.site_core.specs.Sampled.{cycle_samples}
use Rattle.slot_sched.specs.Waiting.{trap_stops}
use Rattle.slot_sched.proofs.stops.any_trap.Given as goal

abbrev pub invariant-loop-trap : goal.invariant-loop-trap
invariant-loop-trap g l =
    list_any (trap_stops l.table (cycle_samples (g.T.Trace.samples l.trace) (g.T.Trace.cursor l.trace)) l.slot) (take l.trap-index l.traps) ≡ false
