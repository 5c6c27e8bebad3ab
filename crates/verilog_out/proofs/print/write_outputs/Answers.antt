use Rattle.std.proofs.Common.{ℕ, ◌<◌, List, length, subst, sym, arith}
use Rattle.bv_core.specs.declared.reference.NodeId.{NodeId}
use Rattle.std.proofs.lemmas.Result.{err_from_is_err_and}
use Rattle.io_edge.proofs.Passing.{more_passes, front_passes, piece_next, piece_of}
use Rattle.verilog_out.specs.Lines.{output_line}
use Rattle.verilog_out.proofs.Gathered.{output_within}
use Rattle.verilog_out.proofs.print.write_outputs.Goals as goal

pub write_output-requires : goal.write_output-requires
write_output-requires g c = subst (λ (o : List ℕ × NodeId). o.1.0 < length c.args.net.now.nodes) (sym c.output-item.is) (output_within c.args.net.now.nodes c.args.outputs.now c.loop-output.output-index _ c.requires c.loop-output-test.true)

pub returns-in_err-write_output-clause-front : goal.returns-in_err-write_output-clause-front
returns-in_err-write_output-clause-front g c =
    let p = err_from_is_err_and c.from_residual.result c.from_residual.ensures.1 in
    let here = piece_of (output_line c.args.net.now.nodes) c.args.outputs.now c.loop-output.output-index _ c.loop-output-test.true c.output-item.is in
    rw (p.1) (front_passes _ _ _ _ _ _ _ _ _ here c.loop-output.invariant.passes c.in_err-write_output.ensures.front)

pub loop-output-preserved : goal.loop-output-preserved
loop-output-preserved g c =
    let next = piece_next (output_line c.args.net.now.nodes) c.args.outputs.now c.loop-output.output-index _ c.loop-output-test.true c.output-item.is in
    record {
      passes = more_passes _ _ _ _ _ _ _ _ _ next c.loop-output.invariant.passes c.in_ok-write_output.ensures.ok;
      later = omega (arith, c.in_ok-write_output.ensures.later);
    }
