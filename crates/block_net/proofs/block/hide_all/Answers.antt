use Rattle.names.specs.Maps.{value_of}
use Rattle.name_widths.specs.DeclaredWidths.{width_at}
use Rattle.std.proofs.Common.{◌∙◌, refl, ap}
use Rattle.std.proofs.lemmas.List.{take_all}
use Rattle.block_net.specs.Blocks.{begun}
use Rattle.block_net.specs.Walks.{among}
use Rattle.block_net.proofs.BlockSteps.{hide_next, hide_start}
use Rattle.block_net.proofs.block.hide_all.Goals as goal

pub loop-key-init : goal.loop-key-init
loop-key-init c = record { fits = c.requires.fits; shows = c.requires.shows; state = hide_start (width_at (value_of c.args.widths.now)) _ c.requires.state; log = refl }

pub loop-key-preserved : goal.loop-key-preserved
loop-key-preserved c = record {
  fits = c.in_ok-hide_key.ensures.fits;
  shows = c.in_ok-hide_key.ensures.shows;
  state = hide_next (width_at (value_of c.args.widths.now)) _ _ _ _ _ c.loop-key-test.true c.key-item.is c.in_ok-hide_key.ensures.state c.loop-key.invariant.state;
  log = c.in_ok-hide_key.ensures.log ∙ c.loop-key.invariant.log;
}

pub returns-clause-state : goal.returns-clause-state
returns-clause-state c = c.loop-key.invariant.state ∙ ap (λ l. begun (width_at (value_of c.args.widths.now)) (among l)) (take_all _ c.args.keys.now c.loop-key-test.false)
