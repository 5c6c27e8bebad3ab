use Rattle.std.proofs.Common.{map, sym, subst, Ok, Err, Result}
use Rattle.std.specs.Prelude.{IfOk, Vec}
use Rattle.std.specs.declared.alloc.Global.{Global}
use Rattle.list_core.specs.Lists.{EachOf}
use Rattle.text_core.specs.declared.memory.NoMemory.{NoMemory}
use Rattle.block_net.specs.Blocks.{BlockParts}
use Rattle.design_core.specs.View.{variant_of}
use Rattle.design_core.specs.DesignView.{design_of}
use Rattle.design_core.specs.Design as design
use Rattle.check_exec.specs.Premises.{IsSound}
use Rattle.ssa_core.specs.Processes.{HaveTerms, TellVariants, VariantFits, lists_of}
use Rattle.ssa_core.proofs.PartBounds.{parts_fit}
use Rattle.ssa_core.proofs.Wide.{all_have}
use Rattle.ssa_core.proofs.terms.block_terms_of.Goals as goal

told : (d : design.Design) → IsSound d → (r : Result (Vec (Vec BlockParts Global) Global) NoMemory) → IfOk r (λ terms. TellVariants (lists_of terms.items) d.variants) → IfOk r (λ terms. HaveTerms d (lists_of terms.items))
told d sound (Ok terms) h = all_have d (lists_of terms.items) sound h
told d sound (Err e) h = h

pub terms_of_variants-requires : goal.terms_of_variants-requires
terms_of_variants-requires c =
    subst (λ vs. EachOf VariantFits (map variant_of vs)) (sym c.deref.ensures.value) (parts_fit (design_of c.args.design.now) (record { kept = c.args.design.now.kept; accepted = c.requires }))

pub returns : goal.returns
returns c =
    told (design_of c.args.design.now) (record { kept = c.args.design.now.kept; accepted = c.requires }) c.terms_of_variants.result
    (subst (λ vs. IfOk c.terms_of_variants.result (λ terms. TellVariants (lists_of terms.items) (map variant_of vs))) c.deref.ensures.value c.terms_of_variants.ensures)
