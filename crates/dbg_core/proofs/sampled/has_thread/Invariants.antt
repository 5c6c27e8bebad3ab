use Rattle.std.proofs.Common.{◌≡◌, false, Some, take}
use Rattle.std.specs.List.{list_any}
use Rattle.symtab.specs.Lookups.{instances_of}
use Rattle.site_core.specs.Sampled.{cycle_samples}
use Rattle.slot_sched.specs.Waiting.{step_stops}
use Rattle.dbg_core.proofs.sampled.has_thread.Given as goal

abbrev pub invariant-loop-other : goal.invariant-loop-other
invariant-loop-other g l =
    list_any (step_stops l.table (cycle_samples (g.T.Trace.samples l.trace) (g.T.Trace.cursor l.trace)) l.slot (Some l.instance)) (take l.other-index (instances_of l.table l.slot)) ≡ false
