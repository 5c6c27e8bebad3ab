use Rattle.std.proofs.Common.{length}
use Rattle.world_core.specs.Sites.{all_spots}
use Rattle.ssa_nodes.specs.Parts.{design_in}
use Rattle.row_net.proofs.Telling.{told_more}
use Rattle.ssa_net.proofs.ends.ends_of.Goals as goal

-- the next values that come after the rows take no node away
pub returns-clause-rows : goal.returns-clause-rows
returns-clause-rows c =
    let d = design_in c.args.parts.now in
    told_more d (length c.args.parts.now.order.now) c.rows_of.new.builder c.nexts_of.new.builder c.in_ok-nexts.ensures.grown.keeps (all_spots d) c.in_ok-rows.rows.items c.in_ok-rows.ensures.told
