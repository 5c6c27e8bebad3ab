use Rattle.std.proofs.Common.{◌<◌, length, arith}
use Rattle.std.proofs.lemmas.Result.{err_from_is_err_and}
use Rattle.io_edge.proofs.Passing.{more_passes, front_passes}
use Rattle.verilog_out.specs.Lines.{part_line}
use Rattle.verilog_out.proofs.Numbers.{number_next, number_of}
use Rattle.verilog_out.proofs.print.write_part.Goals as goal

pub returns-in_err-write_line-clause-front : goal.returns-in_err-write_line-clause-front
returns-in_err-write_line-clause-front g c =
    let p = err_from_is_err_and c.from_residual.result c.from_residual.ensures.1 in
    let f = part_line c.args.net.now c.args.part in
    let inside : c.loop-number.number < length c.args.net.now.nodes = omega arith in
    let behind = number_of f c.loop-number.number (length c.args.net.now.nodes) inside in
    rw (p.1) (front_passes _ _ _ _ _ _ _ _ _ behind.is c.loop-number.invariant.passes c.in_err-write_line.ensures.front)

pub loop-number-preserved : goal.loop-number-preserved
loop-number-preserved g c =
    record {
      passes = more_passes _ _ _ _ _ _ _ _ _ (number_next (part_line c.args.net.now c.args.part) c.loop-number.number) c.loop-number.invariant.passes c.in_ok-write_line.ensures.ok;
      later = omega (arith, c.in_ok-write_line.ensures.later);
    }
