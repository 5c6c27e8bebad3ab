use Rattle.std.proofs.Common.{◌≡◌, ◌≤◌, ◌<◌, length}
use Rattle.std.specs.List.{flat_map}
use Rattle.list_core.specs.Lists.{from}
use Rattle.io_edge.specs.Waiting.{Passes}
use Rattle.vcd_write.specs.Run.{row_of}
use Rattle.vcd_write.specs.Written.{cycle_text}
use Rattle.vcd_write.proofs.write.write_cycles.Given as goal

-- the steps of the cycles so far; the trace is that of the beginning, and the values are those of the next cycle
abbrev pub invariant-loop-cycle : goal.invariant-loop-cycle
invariant-loop-cycle g l = record {
  passes : Passes (g.S.Sink.taken l.initial.out) (g.S.Sink.taken l.out) l.initial.text.items l.text.items (flat_map (cycle_text l.initial.trace.net l.initial.trace.stim) (from 0 l.cycle));
  net : l.trace.net ≡ l.initial.trace.net;
  stim : l.trace.stim ≡ l.initial.trace.stim;
  values : l.cycle < length l.initial.trace.stim.rows → l.values.items ≡ row_of l.initial.trace.net l.initial.trace.stim l.cycle;
  later : g.S.Sink.fault_count l.initial.out ≤ g.S.Sink.fault_count l.out;
}
