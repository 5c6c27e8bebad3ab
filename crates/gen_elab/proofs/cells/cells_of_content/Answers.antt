use Rattle.std.proofs.Common.{ap, sym, ◌∙◌, min, List}
use Rattle.design_core.specs.Design.{Block}
use Rattle.elab_core.specs.View.{content_of}
use Rattle.elab_core.specs.Design.{blocks_cells}
use Rattle.gen_elab.proofs.CellLemmas.{block_end, code_blocks}
use Rattle.gen_elab.proofs.cells.cells_of_content.Goals as goal

pub returns : goal.returns
returns c =
    let content = content_of c.args.content.now in
    let past = rw c.deref-block-items.ensures.value at c.loop-block-test.false in
    block_end content c.args.content.now.blocks.items c.loop-block.block-index c.loop-block.total past c.loop-block.invariant.fits c.loop-block.invariant.cells
    ∙ ap (λ (l : List Block). min (blocks_cells content l) 18446744073709551615) (sym (code_blocks c.args.content.now))
