use Rattle.std.proofs.Common.{◌≤◌}
use Rattle.std.specs.List.{flat_map}
use Rattle.list_core.specs.Lists.{from}
use Rattle.trail_out.specs.Texts.{slot_text}
use Rattle.io_edge.specs.Waiting.{Passes}
use Rattle.trail_out.specs.Written.{samples_at}
use Rattle.trail_out.proofs.rows.write_cycle.Given as goal

-- the lines of the slots so far
abbrev pub invariant-loop-k : goal.invariant-loop-k
invariant-loop-k g l = record {
  passes : Passes (g.S.Sink.taken l.initial.out) (g.S.Sink.taken l.out) l.initial.text.items l.text.items (flat_map (slot_text l.cycle (samples_at (g.T.Trace.samples l.trace) (g.T.Trace.cursor l.trace)) l.rows.table.now) (from 0 l.k));
  later : g.S.Sink.fault_count l.initial.out ≤ g.S.Sink.fault_count l.out;
}
