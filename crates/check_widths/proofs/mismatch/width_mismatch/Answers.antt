use Rattle.std.proofs.Common.{subst, map, ap, ◌∙◌}
use Rattle.design_core.specs.View.{variant_of}
use Rattle.check_core.specs.Faults.{Tells}
use Rattle.check_core.specs.Names.{any_kind}
use Rattle.check_core.specs.Widths.{Widths, mismatch_with, widths_of}
use Rattle.check_widths.proofs.mismatch.width_mismatch.Goals as goal

pub returns : goal.returns
returns c = subst (λ (k : Widths). Tells c.mismatch_with.result (mismatch_with k (map variant_of c.args.variants.now) (variant_of c.args.variant.now)))
    (c.in_ok-signals.ensures ∙ ap (λ l. widths_of any_kind l) c.items.ensures) c.mismatch_with.ensures
