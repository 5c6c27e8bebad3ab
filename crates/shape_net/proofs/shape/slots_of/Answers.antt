use Rattle.std.proofs.Common.{◌≤◌, ◌∙◌, ap, sym, subst, map, length}
use Rattle.std.proofs.lemmas.List.{length-map}
use Rattle.design_core.specs.DesignView.{design_of}
use Rattle.design_core.specs.View.{variant_of}
use Rattle.shape_net.specs.Numbered.{AreNumbersBelow, design_slots, in_number_order}
use Rattle.shape_net.proofs.Numbers.{few_variants, numbers_below}
use Rattle.shape_net.proofs.InOrder.{in_slot_order}
use Rattle.shape_net.proofs.shape.slots_of.Goals as goal

pub numbered_slots-requires : goal.numbered_slots-requires
numbered_slots-requires c =
    subst (λ n. n ≤ 4096) (length-map c.args.design.now.variants.items variant_of ∙ sym (ap length c.deref.ensures.value))
    (few_variants (design_of c.args.design.now) c.args.design.now.kept)

pub by_number-requires : goal.by_number-requires
by_number-requires c =
    subst (λ l. AreNumbersBelow (length l) l) (sym (c.in_ok-numbered.ensures ∙ ap (λ l. design_slots 0 (map variant_of l)) c.deref.ensures.value))
    (numbers_below (design_of c.args.design.now) c.args.design.now.kept)

pub returns : goal.returns
returns c =
    c.in_ok-slots.ensures
    ∙ ap in_number_order (c.in_ok-numbered.ensures ∙ ap (λ l. design_slots 0 (map variant_of l)) c.deref.ensures.value)
    ∙ in_slot_order (design_of c.args.design.now)
