use Rattle.std.proofs.Common.{◌∙◌, sym, ap, Err}
use Rattle.std.proofs.lemmas.Result.{err_from_is_err_and}
use Rattle.names.specs.Maps.{value_of}
use Rattle.design_core.specs.View.{block_of, body_of}
use Rattle.design_core.specs.Statements.{statements, stmts_at}
use Rattle.check_core.specs.Drivers.{assignments}
use Rattle.name_widths.specs.DeclaredWidths.{width_at}
use Rattle.check_paths.specs.Walked.{assigned_in}
use Rattle.check_paths.proofs.Drives.{err_told}
use Rattle.check_paths.proofs.LeftOut.{left_out_of, clocked_none}
use Rattle.check_paths.proofs.latches.latch_in.Goals as goal

pub returns-then-block : goal.returns-then-block
returns-then-block c = clocked_none (width_at (value_of c.args.widths.now)) (block_of c.args.block.now) c.if-block.true

pub returns-in_err-left_out_among : goal.returns-in_err-left_out_among
returns-in_err-left_out_among c =
    let p = err_from_is_err_and c.from_residual-in_err-left_out_among.result c.from_residual-in_err-left_out_among.ensures.1 in
    err_told _ _ _ (p.1 ∙ ap (λ x. Err x) p.2)
    (λ known. sym (left_out_of (width_at (value_of c.args.widths.now)) (block_of c.args.block.now) _ _ (c.in_ok-assigned.ensures.assigned ∙ ap (λ l. assigned_in (body_of l)) c.deref.ensures.value)
    (ap assignments (ap stmts_at c.deref-3.ensures.value ∙ c.in_ok-stmts.ensures ∙ ap (λ l. statements (body_of l)) c.deref-2.ensures.value)) c.if-block.false) ∙ c.in_err-left_out_among.ensures known)

pub returns : goal.returns
returns c = sym (left_out_of (width_at (value_of c.args.widths.now)) (block_of c.args.block.now) _ _ (c.in_ok-assigned.ensures.assigned ∙ ap (λ l. assigned_in (body_of l)) c.deref.ensures.value)
    (ap assignments (ap stmts_at c.deref-3.ensures.value ∙ c.in_ok-stmts.ensures ∙ ap (λ l. statements (body_of l)) c.deref-2.ensures.value)) c.if-block.false) ∙ c.in_ok-left_out_among.ensures
