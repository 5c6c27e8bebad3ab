use Rattle.std.proofs.Common.{◌≡◌, ◌≤◌, length, filter, take}
use Rattle.symtab.specs.Lookups.{instances_of}
use Rattle.site_core.specs.Sampled.{cycle_samples, is_thread}
use Rattle.dbg_core.proofs.sampled.thread_count.Given as goal

abbrev pub invariant-loop-instance : goal.invariant-loop-instance
invariant-loop-instance g l =
    (l.count ≡ length (filter (is_thread l.table (cycle_samples (g.T.Trace.samples l.trace) (g.T.Trace.cursor l.trace)) l.slot) (take l.instance-index (instances_of l.table l.slot))))
    × (l.count ≤ l.instance-index)
