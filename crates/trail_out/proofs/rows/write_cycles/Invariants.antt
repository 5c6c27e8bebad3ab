use Rattle.std.proofs.Common.{◌≡◌, ◌≤◌}
use Rattle.std.specs.List.{flat_map}
use Rattle.list_core.specs.Lists.{from}
use Rattle.trail_out.specs.Texts.{cycle_text}
use Rattle.io_edge.specs.Waiting.{Passes}
use Rattle.trail_out.proofs.rows.write_cycles.Given as goal

-- the lines of the cycles so far; the samples are those of the beginning
abbrev pub invariant-loop-cycle : goal.invariant-loop-cycle
invariant-loop-cycle g l = record {
  passes : Passes (g.S.Sink.taken l.initial.out) (g.S.Sink.taken l.out) l.initial.text.items l.text.items (flat_map (cycle_text (g.T.Trace.samples l.initial.trace) l.rows.table.now) (from 0 l.cycle));
  samples : g.T.Trace.samples l.trace ≡ g.T.Trace.samples l.initial.trace;
  later : g.S.Sink.fault_count l.initial.out ≤ g.S.Sink.fault_count l.out;
}
