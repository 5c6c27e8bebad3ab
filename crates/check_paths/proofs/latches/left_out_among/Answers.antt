use Rattle.std.proofs.Common.{◌∙◌, sym, ap, Err}
use Rattle.std.proofs.lemmas.Result.{err_from_is_err_and}
use Rattle.names.specs.Maps.{value_of}
use Rattle.name_widths.specs.DeclaredWidths.{width_at}
use Rattle.check_paths.specs.Frames.{all_bits}
use Rattle.check_paths.specs.Walked.{left_out}
use Rattle.check_paths.proofs.Drives.{drive_next, drive_at, drive_end, err_told}
use Rattle.check_paths.proofs.latches.left_out_among.Goals as goal

pub returns-in_err-left_out_at : goal.returns-in_err-left_out_at
returns-in_err-left_out_at c =
    let p = err_from_is_err_and c.from_residual.result c.from_residual.ensures.1 in
    err_told _ _ _ (p.1 ∙ ap (λ x. Err x) p.2)
    (λ known. sym c.loop-stmt.invariant
    ∙ drive_at (left_out (width_at (value_of c.args.widths.now)) (all_bits c.args.assigned.now) c.args.line) _ _ _ _ c.loop-stmt-test.true c.stmt-item.is (c.in_err-left_out_at.ensures known))

pub loop-stmt-preserved : goal.loop-stmt-preserved
loop-stmt-preserved c =
    drive_next (left_out (width_at (value_of c.args.widths.now)) (all_bits c.args.assigned.now) c.args.line) _ _ _ c.loop-stmt-test.true c.stmt-item.is c.in_ok-left_out_at.ensures ∙ c.loop-stmt.invariant

pub returns : goal.returns
returns c = sym c.loop-stmt.invariant ∙ drive_end (left_out (width_at (value_of c.args.widths.now)) (all_bits c.args.assigned.now) c.args.line) _ _ c.loop-stmt-test.false
