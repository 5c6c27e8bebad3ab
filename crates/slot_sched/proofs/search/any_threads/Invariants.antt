use Rattle.std.proofs.Common.{◌≡◌, false, take, None}
use Rattle.std.specs.List.{list_any}
use Rattle.symtab.specs.Lookups.{instances_of}
use Rattle.site_core.specs.Sampled.{cycle_samples}
use Rattle.slot_sched.specs.Waiting.{step_stops}
use Rattle.slot_sched.proofs.search.any_threads.Given as goal

abbrev pub invariant-loop-instance : goal.invariant-loop-instance
invariant-loop-instance g l =
    list_any (step_stops l.table (cycle_samples (g.T.Trace.samples l.trace) (g.T.Trace.cursor l.trace)) l.slot None) (take l.instance-index (instances_of l.table l.slot)) ≡ false
