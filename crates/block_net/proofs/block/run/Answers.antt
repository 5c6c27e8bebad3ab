use Rattle.names.specs.Maps.{value_of}
use Rattle.name_widths.specs.DeclaredWidths.{width_at}
use Rattle.std.proofs.Common.{◌∙◌}
use Rattle.block_net.specs.Source.{body_in}
use Rattle.block_net.proofs.WalkSteps.{grown_shows}
use Rattle.block_net.proofs.BlockSteps.{linked, told}
use Rattle.block_net.proofs.block.run.Goals as goal

pub walk_body-requires-clause-shows : goal.walk_body-requires-clause-shows
walk_body-requires-clause-shows c = grown_shows (width_at (value_of c.args.widths.now)) _ _ c.in_ok-enable.ensures.grown c.in_ok-walk.ensures.shows

pub invariant_of-result : goal.invariant_of-result
invariant_of-result c = linked (width_at (value_of c.args.widths.now)) c.constant.new.self c.walk_body.new.walk _ (body_in c.args.clocked c.args.stmts.now) (c.in_ok-enable.ensures.grown.log ∙ c.in_ok-walk.ensures.log) c.in_ok-walk_body.ensures

pub returns : goal.returns
returns c =
    told (width_at (value_of c.args.widths.now)) c.in_ok-walk.walk c.constant.new.self c.walk_body.new.walk c.in_ok-enable.enable (body_in c.args.clocked c.args.stmts.now) c.in_ok-walk.ensures.state c.in_ok-walk.ensures.shows c.in_ok-walk.ensures.log c.in_ok-enable.ensures.grown
    c.in_ok-enable.ensures.stands c.in_ok-walk_body.ensures
