use Rattle.std.proofs.Common.{◌≡◌, length, map, option_map}
use Rattle.dbg_core.specs.World.{world_of}
use Rattle.dbg_core.specs.State.{machine_of}
use Rattle.demo_run.proofs.Counting.{Counting}
use Rattle.demo_run.proofs.count.count_batch.Given as goal

abbrev pub invariant-loop-line : goal.invariant-loop-line
invariant-loop-line g l = record {
  table : l.session.value.table ≡ l.fn.session.table;
  samples : g.T.Trace.samples l.session.value.trace ≡ g.T.Trace.samples l.fn.session.trace;
  counting : Counting (world_of l.fn.session.table (g.T.Trace.samples l.fn.session.trace))
      (machine_of l.fn.session (map (option_map (λ b. (goal.Listener-dyn g (b.vtable, b.value)).heard b.value)) l.fn.listeners.boxes.items)) l.fn.requests
      (machine_of l.session.value (map (option_map (λ b. (goal.Listener-dyn g (b.vtable, b.value)).heard b.value)) l.listeners.boxes.items)) l.rest l.counts;
}

abbrev pub decreases-loop-line : goal.decreases-loop-line
decreases-loop-line g l = length l.rest
