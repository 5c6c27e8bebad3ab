use Rattle.names.specs.Maps.{value_of}
use Rattle.name_widths.specs.DeclaredWidths.{width_at}
use Rattle.exec_core.specs.Block.{covers}
use Rattle.std.proofs.Common.{Some, ◌∙◌, ap}
use Rattle.block_net.proofs.WalkSteps.{grown_shows}
use Rattle.block_net.proofs.PartSteps.{part_walked}
use Rattle.block_net.proofs.TermLists.{within_more}
use Rattle.block_net.proofs.walk.Walk.assign_part.Goals as goal

pub splice-requires-clause-within : goal.splice-requires-clause-within
splice-requires-clause-within c = within_more _ _ c.args.value c.in_ok-old.ensures.grown.terms c.requires.within

pub set-requires-clause-shows : goal.set-requires-clause-shows
set-requires-clause-shows c = grown_shows (width_at (value_of c.args.widths.now)) _ _ c.in_ok-id.ensures.grown (grown_shows (width_at (value_of c.args.widths.now)) _ _ c.in_ok-old.ensures.grown c.requires.shows)

pub returns : goal.returns
returns c =
    part_walked (width_at (value_of c.args.widths.now)) c.args.self.now c.pending_of.new.self c.splice.new.self c.set.new.self c.args.key c.args.high c.args.low c.in_ok-old.old c.args.value c.in_ok-id.id _ _ _ c.requires.shows c.requires.within
    c.in_ok-old.ensures.grown c.in_ok-old.ensures.stands (c.bits_of.ensures.bits ∙ ap (width_at (value_of c.args.widths.now)) c.name.ensures) c.in_ok-id.ensures.grown c.in_ok-id.ensures.stands (c.of_part-part.ensures ∙ (λ j. covers (Some (record { high = c.from.ensures j; low = c.from-2.ensures j })))) c.joined-bits.ensures c.in_ok-set.ensures
