use Rattle.std.proofs.Common.{◌∙◌, sym, ap, Some}
use Rattle.names.specs.Known.{has}
use Rattle.names.specs.Maps.{value_of}
use Rattle.check_core.specs.declared.fault.CheckFault.TheVariants.{ReadBeforeWrite}
use Rattle.check_core.specs.Faults.{spot}
use Rattle.name_widths.specs.DeclaredWidths.{width_at}
use Rattle.check_paths.specs.Frames.{all_bits, bits_at}
use Rattle.check_paths.proofs.Missing.{name_unwatched, name_full, name_early}
use Rattle.check_paths.proofs.walk.early_name.Goals as goal

pub returns-then-not-contains : goal.returns-then-not-contains
returns-then-not-contains c =
    name_unwatched (width_at (value_of c.args.widths.now)) (has c.args.watched.now) (all_bits c.args.frames.now) c.args.line c.args.name.now
    (sym (c.contains.ensures ∙ ap (has c.args.watched.now) c.bytes-name.ensures) ∙ c.if-not-contains.true)

pub returns-then-is_full : goal.returns-then-is_full
returns-then-is_full c =
    name_full (width_at (value_of c.args.widths.now)) (has c.args.watched.now) (all_bits c.args.frames.now) c.args.line c.args.name.now _ _
    (sym (c.contains.ensures ∙ ap (has c.args.watched.now) c.bytes-name.ensures) ∙ c.if-not-contains.false) (c.bits.ensures ∙ ap (bits_at (all_bits c.args.frames.now)) c.bytes-name.ensures)
    (c.bits_of.ensures.bits ∙ ap (width_at (value_of c.args.widths.now)) c.bytes-name.ensures) (sym c.is_full.ensures ∙ c.if-is_full.true)

pub returns : goal.returns
returns c = λ known.
    name_early (width_at (value_of c.args.widths.now)) (has c.args.watched.now) (all_bits c.args.frames.now) c.args.line c.args.name.now _ _
    (sym (c.contains.ensures ∙ ap (has c.args.watched.now) c.bytes-name.ensures) ∙ c.if-not-contains.false) (c.bits.ensures ∙ ap (bits_at (all_bits c.args.frames.now)) c.bytes-name.ensures)
    (c.bits_of.ensures.bits ∙ ap (width_at (value_of c.args.widths.now)) c.bytes-name.ensures) (sym c.is_full.ensures ∙ c.if-is_full.false)
    ∙ ap (λ s. Some (ReadBeforeWrite s)) (sym (c.in_ok-spot.ensures ∙ ap (spot c.args.line) c.bytes-name.ensures))
