use Rattle.std.proofs.Common.{◌≤◌}
use Rattle.std.specs.List.{flat_map}
use Rattle.io_edge.specs.Waiting.{Passes}
use Rattle.list_core.specs.Lists.{from}
use Rattle.verilog_out.specs.Lines.{part_line}
use Rattle.verilog_out.proofs.print.write_part.Given as goal

-- the lines of the nodes so far
abbrev pub invariant-loop-number : goal.invariant-loop-number
invariant-loop-number g l = record {
  passes : Passes (g.S.Sink.taken l.initial.out) (g.S.Sink.taken l.out) l.initial.text.items l.text.items (flat_map (part_line l.net l.part) (from 0 l.number));
  later : g.S.Sink.fault_count l.initial.out ≤ g.S.Sink.fault_count l.out;
}
