use Rattle.std.proofs.Common.{◌∙◌, sym, ap, Err}
use Rattle.std.proofs.lemmas.Result.{err_from_is_err_and}
use Rattle.names.specs.Maps.{value_of}
use Rattle.design_core.specs.View.{block_of, body_of}
use Rattle.name_widths.specs.DeclaredWidths.{width_at}
use Rattle.check_paths.proofs.Drives.{err_told}
use Rattle.check_paths.proofs.Walks.{walk_of}
use Rattle.check_paths.proofs.early.early_in_block.Goals as goal

pub returns-in_err-walk : goal.returns-in_err-walk
returns-in_err-walk c =
    let p = err_from_is_err_and c.from_residual-in_err-walk.result c.from_residual-in_err-walk.ensures.1 in
    err_told _ _ _ (p.1 ∙ ap (λ x. Err x) p.2)
    (λ known. sym (walk_of (width_at (value_of c.args.widths.now)) _ c.new-frames.result (block_of c.args.block.now) _ c.in_ok-own.ensures c.new-frames.ensures.outer c.new-frames.ensures.own (ap body_of c.deref.ensures.value))
    ∙ c.in_err-walk.ensures.told known)

pub returns : goal.returns
returns c =
    sym (walk_of (width_at (value_of c.args.widths.now)) _ c.new-frames.result (block_of c.args.block.now) _ c.in_ok-own.ensures c.new-frames.ensures.outer c.new-frames.ensures.own (ap body_of c.deref.ensures.value))
    ∙ c.in_ok-walk.ensures.told
