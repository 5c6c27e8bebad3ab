use Rattle.std.proofs.Common.{◌∙◌}
use Rattle.std.proofs.Common.{ap}
use Rattle.design_core.specs.View.{variant_of}
use Rattle.std.proofs.lemmas.List.{map_push}
use Rattle.ssa_core.specs.Processes.{VariantFits, lists_of}
use Rattle.ssa_core.proofs.Telling.{each_here, variants_more}
use Rattle.ssa_core.proofs.terms.terms_of_variants.Goals as goal

pub variant_terms-requires : goal.variant_terms-requires
variant_terms-requires c = each_here variant_of VariantFits c.args.variants.now c.loop-variant.variant-index c.variant-item.result c.loop-variant-test.true c.variant-item.is c.requires

pub loop-variant-preserved : goal.loop-variant-preserved
loop-variant-preserved c =
    variants_more variant_of (lists_of c.loop-variant.all.items) (lists_of c.push.new.self.items) c.in_ok-variant_terms.field-0.items c.args.variants.now c.loop-variant.variant-index c.variant-item.result c.loop-variant-test.true c.variant-item.is
    c.loop-variant.invariant c.in_ok-variant_terms.ensures
    (ap lists_of c.in_ok-push.ensures.items ∙ map_push (λ v. v.items) c.loop-variant.all.items c.in_ok-variant_terms.field-0)
