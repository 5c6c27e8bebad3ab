use Rattle.std.proofs.Common.{◌++◌, refl}
use Rattle.std.proofs.lemmas.Result.{err_from_is_err_and}
use Rattle.io_edge.proofs.Passing.{more_passes, front_passes, front_first}
use Rattle.verilog_out.specs.declared.part.Part.TheVariants.{Declarations, Assignments, Steps}
use Rattle.verilog_out.specs.Lines.{part_text, outputs_text}
use Rattle.verilog_out.proofs.Gathered.{body_split, body_joined, body_last}
use Rattle.verilog_out.proofs.print.write_body.Goals as goal

pub returns-in_err-write_part-clause-front : goal.returns-in_err-write_part-clause-front
returns-in_err-write_part-clause-front g c =
    let p = err_from_is_err_and c.from_residual.result c.from_residual.ensures.1 in
    rw (p.1)
    (front_first (g.S.Sink.taken c.args.out.now) (g.S.Sink.taken c.write_part.new.out) c.args.text.now.items
    (part_text c.args.net.now Declarations)
    (part_text c.args.net.now Assignments ++ (outputs_text c.args.net.now ++ part_text c.args.net.now Steps))
    c.in_err-write_part.ensures.front)

pub returns-in_err-write_part-2-clause-front : goal.returns-in_err-write_part-2-clause-front
returns-in_err-write_part-2-clause-front g c =
    let p = err_from_is_err_and c.from_residual-in_err-write_part-2.result c.from_residual-in_err-write_part-2.ensures.1 in
    rw (p.1) (front_passes _ _ _ _ _ _ _ _ _ refl c.in_ok-write_part.ensures.ok c.in_err-write_part-2.ensures.front)

pub returns-in_err-write_outputs-clause-front : goal.returns-in_err-write_outputs-clause-front
returns-in_err-write_outputs-clause-front g c =
    let p = err_from_is_err_and c.from_residual-in_err-write_outputs.result c.from_residual-in_err-write_outputs.ensures.1 in
    let two = more_passes _ _ _ _ _ _ _ _ _ refl c.in_ok-write_part.ensures.ok c.in_ok-write_part-2.ensures.ok in
    rw (p.1) (front_passes _ _ _ _ _ _ _ _ _ (body_split c.args.net.now c.outputs.result.now c.outputs.ensures.outputs) two c.in_err-write_outputs.ensures.front)

pub returns-in_err-write_part-3-clause-front : goal.returns-in_err-write_part-3-clause-front
returns-in_err-write_part-3-clause-front g c =
    let p = err_from_is_err_and c.from_residual-in_err-write_part-3.result c.from_residual-in_err-write_part-3.ensures.1 in
    let two = more_passes _ _ _ _ _ _ _ _ _ refl c.in_ok-write_part.ensures.ok c.in_ok-write_part-2.ensures.ok in
    let three = more_passes _ _ _ _ _ _ _ _ _ refl two c.in_ok-write_outputs.ensures.ok in
    rw (p.1) (front_passes _ _ _ _ _ _ _ _ _ (body_last c.args.net.now c.outputs.result.now c.outputs.ensures.outputs) three c.in_err-write_part-3.ensures.front)

pub returns-clause-ok : goal.returns-clause-ok
returns-clause-ok g c =
    let two = more_passes _ _ _ _ _ _ _ _ _ refl c.in_ok-write_part.ensures.ok c.in_ok-write_part-2.ensures.ok in
    let three = more_passes _ _ _ _ _ _ _ _ _ refl two c.in_ok-write_outputs.ensures.ok in
    more_passes _ _ _ _ _ _ _ _ _ (body_joined c.args.net.now c.outputs.result.now c.outputs.ensures.outputs) three c.in_ok-write_part-3.ensures.ok
