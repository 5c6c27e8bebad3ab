use Rattle.std.proofs.Common.{◌≡◌, length, ap, sym, ◌∙◌, arith}
use Rattle.std.specs.Prelude.{slice_get}
use Rattle.std.specs.Option.{option_map}
use Rattle.vcd_read.specs.Changes.{Story, Change}
use Rattle.vcd_read.proofs.Rows.{length-changes_of, is_row}
use Rattle.vcd_read.proofs.changes.Changes.code.Goals as goal

pub row_at-row-requires : goal.row_at-row-requires
row_at-row-requires c =
    let s = c.self.inside in
    let counted : length s.rows.items ≡ length c.args.self.now.changes = sym (length-changes_of s.times.items s.digits.items 0 s.rows.items) ∙ ap (λ (s : Story). length s.changes) c.self.view_is in
    rw (c.deref.ensures.value) (omega arith)

pub returns : goal.returns
returns c =
    let s = c.self.inside in
    let row = is_row s.time s.times.items s.digits.items s.rows.items c.args.i c.row_at-row.result c.self.invariant (ap (λ rows. slice_get rows c.args.i) (sym c.deref.ensures.value) ∙ c.row_at-row.ensures) in
    ap (λ (s : Story). option_map (λ (change : Change). change.code) (slice_get s.changes c.args.i)) (sym c.self.view_is) ∙ ap (option_map (λ (change : Change). change.code)) row.change
