use Rattle.std.proofs.Common.{ap, sym, ◌∙◌, map}
use Rattle.design_core.specs.View.{block_of}
use Rattle.names.specs.Known.{either}
use Rattle.check_core.specs.Drivers.{is_assigned}
use Rattle.check_paths.proofs.Targets.{blocks_next, blocks_end}
use Rattle.check_paths.proofs.driven.assigned_by.Goals as goal

pub loop-block-init : goal.loop-block-init
loop-block-init c = ap (λ known. either known (is_assigned (map block_of c.args.blocks.now))) c.new-assigned.ensures.known

pub loop-block-preserved : goal.loop-block-preserved
loop-block-preserved c = blocks_next _ _ _ _ _ c.loop-block-test.true c.block-item.is c.in_ok-put_block.ensures ∙ c.loop-block.invariant

pub returns : goal.returns
returns c = sym (blocks_end _ _ _ c.loop-block-test.false) ∙ c.loop-block.invariant
