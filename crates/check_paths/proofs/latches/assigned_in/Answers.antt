use Rattle.std.proofs.Common.{◌∙◌, sym, ap, Err}
use Rattle.std.proofs.lemmas.Result.{err_from_is_err_and}
use Rattle.names.specs.Known.{has}
use Rattle.names.specs.Maps.{value_of}
use Rattle.design_core.specs.View.{body_of}
use Rattle.name_widths.specs.DeclaredWidths.{width_at}
use Rattle.check_paths.specs.Frames.{all_bits}
use Rattle.check_paths.proofs.Drives.{err_told}
use Rattle.check_paths.proofs.Walks.{nothing_told, walk_assigned}
use Rattle.check_paths.proofs.latches.assigned_in.Goals as goal

pub returns-in_err-walk-clause-told : goal.returns-in_err-walk-clause-told
returns-in_err-walk-clause-told c =
    let p = err_from_is_err_and c.from_residual.result c.from_residual.ensures.1 in
    err_told _ _ _ (p.1 ∙ ap (λ x. Err x) p.2)
    (λ known. sym (nothing_told (width_at (value_of c.new-widths.result)) (has c.new-watched.result) (all_bits c.new-frames.result) (body_of c.args.stmts.now) c.new-watched.ensures.known) ∙ c.in_err-walk.ensures.told known)

pub returns-clause-assigned : goal.returns-clause-assigned
returns-clause-assigned c =
    walk_assigned c.new-frames.result _ (body_of c.args.stmts.now) c.new-frames.ensures.outer c.new-frames.ensures.own c.in_ok-walk.ensures.kept c.in_ok-walk.ensures.assigned
