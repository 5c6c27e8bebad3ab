use Rattle.std.proofs.Common.{subst, ap, ◌∙◌, map}
use Rattle.design_core.specs.View.{block_of}
use Rattle.check_core.specs.Faults.{Tells}
use Rattle.check_core.specs.Paths.{declared_width}
use Rattle.check_paths.proofs.LeftOut.{latches_as}
use Rattle.check_paths.proofs.latches.latch.Goals as goal

pub returns : goal.returns
returns c = subst (λ o. Tells c.latch_among.result o)
    (latches_as _ _ _ _ (c.in_ok-widths.ensures ∙ ap (λ l. declared_width l) c.items.ensures) (ap (λ l. map block_of l) c.deref.ensures.value)) c.latch_among.ensures
