use Rattle.names.specs.Maps.{value_of}
use Rattle.name_widths.specs.DeclaredWidths.{width_at}
use Rattle.std.proofs.Common.{◌∙◌, ap}
use Rattle.block_net.specs.Source.{body_in}
use Rattle.block_net.specs.Walks.{among}
use Rattle.block_net.proofs.Alone.{blank_shows}
use Rattle.block_net.proofs.BlockSteps.{begun_starts}
use Rattle.block_net.proofs.block.begin.Goals as goal

pub hide_all-requires-clause-shows : goal.hide_all-requires-clause-shows
hide_all-requires-clause-shows c = blank_shows (width_at (value_of c.args.widths.now)) c.blank-walk.result c.blank-walk.ensures.state c.blank-walk.ensures.env

pub returns-clause-log : goal.returns-clause-log
returns-clause-log c = c.in_ok-hide_all.ensures.log ∙ c.blank-walk.ensures.log

pub returns-clause-state : goal.returns-clause-state
returns-clause-state c =
    begun_starts (width_at (value_of c.args.widths.now)) _ (among c.deref-2.result.now) (body_in c.args.clocked c.args.stmts.now)
    (ap among c.deref-2.ensures.value ∙ c.in_ok-own.ensures ∙ ap among c.deref.ensures.value ∙ c.in_ok-keys.ensures) c.in_ok-hide_all.ensures.state
