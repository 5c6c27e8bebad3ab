use Rattle.design_core.specs.View.{block_of}
use Rattle.names.specs.Maps.{value_of}
use Rattle.name_widths.specs.DeclaredWidths.{width_at}
use Rattle.ssa_core.specs.Processes.{BlockFits}
use Rattle.ssa_core.proofs.Telling.{blocks_more, each_here}
use Rattle.ssa_core.proofs.terms.terms_of.Goals as goal

pub block_terms-requires : goal.block_terms-requires
block_terms-requires c = each_here block_of BlockFits c.args.blocks.now c.loop-block.block-index c.block-item.result c.loop-block-test.true c.block-item.is c.requires

pub loop-block-preserved : goal.loop-block-preserved
loop-block-preserved c =
    blocks_more (width_at (value_of c.args.widths.now)) block_of c.loop-block.terms.items c.push.new.self.items c.in_ok-block_terms.field-0 c.args.blocks.now c.loop-block.block-index c.block-item.result c.loop-block-test.true c.block-item.is
    c.loop-block.invariant c.in_ok-block_terms.ensures c.in_ok-push.ensures.items
