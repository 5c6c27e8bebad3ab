use Rattle.std.proofs.Common.{length}
use Rattle.design_core.specs.View.{block_of}
use Rattle.ssa_nodes.specs.Parts.{design_in}
use Rattle.row_net.specs.Blocks.{block_sites}
use Rattle.row_net.specs.Spots.{at_instance}
use Rattle.row_net.proofs.Puts.{spots_put}
use Rattle.row_net.proofs.process.put_process.Goals as goal

pub returns-clause-put : goal.returns-clause-put
returns-clause-put c =
    let d = design_in c.args.parts.now in
    spots_put d (length c.args.parts.now.order.now) c.args.builder.now c.process_rows.new.builder (at_instance c.args.instance (block_sites d c.args.variant (block_of c.args.block.now))) c.args.rows.now.items c.in_ok-more.more.items c.append.new.self.items
    c.in_ok-more.ensures.grown.keeps c.in_ok-more.ensures.told c.in_ok-append.ensures.items
