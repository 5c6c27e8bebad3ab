-- The slots of an instance differ.
use Rattle.std.proofs.Common.{List, [], ◌∷◌, length, unwrap_or}
use Rattle.std.specs.Prelude.{slice_get}
use Rattle.list_core.specs.Lists.{EachOf}
use Rattle.design_core.specs.Design.{Variant}
use Rattle.design_core.specs.Slots.{variant_heads, slots_of, AreNumbered}
use Rattle.design_core.specs.WellFormed.{IsVariant}
use Rattle.design_exec.proofs.Slots.{instances_apart}
use Rattle.check_exec.specs.Premises.{SlotsAreApart}

each_numbered : (variants list : List Variant) → EachOf (IsVariant variants) list → EachOf AreNumbered list
each_numbered variants [] h = tt
each_numbered variants (v ∷ list) h =
    let slots = slots_of (variant_heads v) in
    (record { first = unwrap_or (slice_get slots 0) 0; count = length slots; slots = (h.0).in_turn }, each_numbered variants list h.1)

pub slots_are_apart : SlotsAreApart
slots_are_apart d kept i = instances_apart d (each_numbered d.variants d.variants kept.each) i
