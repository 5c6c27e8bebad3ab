use Rattle.std.proofs.Common.{subst, ap, ◌∙◌, map}
use Rattle.design_core.specs.View.{block_of}
use Rattle.check_core.specs.Faults.{Tells}
use Rattle.check_core.specs.Drivers.{is_assigned}
use Rattle.check_paths.proofs.Targets.{undriven_as}
use Rattle.check_paths.proofs.driven.undriven.Goals as goal

pub returns : goal.returns
returns c = subst (λ o. Tells c.undriven_among.result o)
    (undriven_as _ _ _ _ (c.in_ok-assigned.ensures ∙ ap (λ l. is_assigned (map block_of l)) c.deref.ensures.value) c.items.ensures) c.undriven_among.ensures
