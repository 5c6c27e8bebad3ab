use Rattle.std.proofs.Common.{◌≤◌, take}
use Rattle.std.specs.List.{flat_map}
use Rattle.io_edge.specs.Waiting.{Passes}
use Rattle.verilog_out.specs.Lines.{output_line}
use Rattle.verilog_out.proofs.print.write_outputs.Given as goal

-- the assignments of the outputs so far
abbrev pub invariant-loop-output : goal.invariant-loop-output
invariant-loop-output g l = record {
  passes : Passes (g.S.Sink.taken l.initial.out) (g.S.Sink.taken l.out) l.initial.text.items l.text.items (flat_map (output_line l.net.nodes) (take l.output-index l.outputs));
  later : g.S.Sink.fault_count l.initial.out ≤ g.S.Sink.fault_count l.out;
}
