use Rattle.std.proofs.Common.{◌∙◌, sym, ap, Err}
use Rattle.std.proofs.lemmas.Result.{err_from_is_err_and}
use Rattle.names.specs.Maps.{value_of}
use Rattle.design_core.specs.View.{block_of}
use Rattle.check_core.specs.Paths.{latch_in}
use Rattle.check_core.proofs.Firsts.{first_at}
use Rattle.name_widths.specs.DeclaredWidths.{width_at}
use Rattle.check_paths.proofs.Drives.{err_told}
use Rattle.check_paths.proofs.latches.latch_among.Goals as goal

pub returns-in_err-latch_in : goal.returns-in_err-latch_in
returns-in_err-latch_in c =
    let p = err_from_is_err_and c.from_residual.result c.from_residual.ensures.1 in
    err_told _ _ _ (p.1 ∙ ap (λ x. Err x) p.2)
    (λ known. sym c.loop-block.invariant
    ∙ first_at (latch_in (width_at (value_of c.args.widths.now))) block_of c.args.blocks.now _ _ _ c.loop-block-test.true c.block-item.is (c.in_err-latch_in.ensures known))
