use Rattle.std.proofs.Common.{length}
use Rattle.ssa_nodes.specs.Parts.{design_in}
use Rattle.row_net.proofs.Puts.{sorted_told}
use Rattle.row_net.proofs.rows.rows_of.Goals as goal

pub returns-clause-told : goal.returns-clause-told
returns-clause-told c =
    sorted_told (design_in c.args.parts.now) c.requires.parts.parts.sound.kept (length c.args.parts.now.order.now) c.rows_by_instance.new.builder c.in_ok-rows.rows.items c.in_ok-sorted.sorted.items c.in_ok-rows.ensures.told c.in_ok-sorted.ensures
