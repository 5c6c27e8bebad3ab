use Rattle.std.proofs.Common.{◌∙◌, sym, ap, SFits, w64, rules}
use Rattle.std.proofs.lemmas.Int.{to_z-of_z}
use Rattle.names.specs.Maps.{value_of, put_value}
use Rattle.name_widths.proofs.Declaring.{width_new}
use Rattle.name_widths.proofs.declared.note_width.Goals as goal

pub returns-in_ok-put-in-None : goal.returns-in_ok-put-in-None
returns-in_ok-put-in-None c =
    let fits : SFits w64 c.args.signal.now.width = search rules in
    width_new _ _ c.args.signal.now (ap (value_of c.args.widths.now) (sym c.bytes-name.ensures) ∙ sym c.get.ensures ∙ c.in-None.is)
    (c.in_ok-put-in-None.ensures.ok ∙ (λ i. put_value (c.bytes-name.ensures i) (to_z-of_z w64 c.args.signal.now.width fits i) (value_of c.args.widths.now)))
