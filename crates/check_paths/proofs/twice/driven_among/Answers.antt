use Rattle.std.proofs.Common.{◌∙◌, sym, ap, Err}
use Rattle.std.proofs.lemmas.Result.{err_from_is_err_and}
use Rattle.check_paths.proofs.Drives.{block_next, block_at, err_told}
use Rattle.check_paths.proofs.twice.driven_among.Goals as goal

pub returns-in_err-block_once : goal.returns-in_err-block_once
returns-in_err-block_once c =
    let p = err_from_is_err_and c.from_residual.result c.from_residual.ensures.1 in
    err_told _ _ _ (p.1 ∙ ap (λ x. Err x) p.2)
    (λ known. sym c.loop-block.invariant ∙ block_at _ _ _ _ _ c.loop-block-test.true c.block-item.is (c.in_err-block_once.ensures.told known))

pub loop-block-preserved : goal.loop-block-preserved
loop-block-preserved c = block_next _ _ _ _ _ c.loop-block-test.true c.block-item.is c.in_ok-block_once.ensures.told c.in_ok-block_once.ensures.lines ∙ c.loop-block.invariant
