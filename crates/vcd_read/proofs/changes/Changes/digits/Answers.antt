use Rattle.std.proofs.Common.{◌≡◌, length, ap, sym, ◌∙◌, arith}
use Rattle.std.specs.Prelude.{slice_get}
use Rattle.std.specs.Option.{option_map}
use Rattle.vcd_read.specs.Changes.{Story, Change}
use Rattle.vcd_read.specs.Columns.{start_at}
use Rattle.vcd_read.proofs.Rows.{length-changes_of, is_row}
use Rattle.vcd_read.proofs.changes.Changes.digits.Goals as goal

pub row_at-row-requires : goal.row_at-row-requires
row_at-row-requires c =
    let s = c.self.inside in
    let counted : length s.rows.items ≡ length c.args.self.now.changes = sym (length-changes_of s.times.items s.digits.items 0 s.rows.items) ∙ ap (λ (s : Story). length s.changes) c.self.view_is in
    rw (c.deref.ensures.value) (omega arith)

pub start_of-start-requires : goal.start_of-start-requires
start_of-start-requires c =
    let s = c.self.inside in
    let counted : length s.rows.items ≡ length c.args.self.now.changes = sym (length-changes_of s.times.items s.digits.items 0 s.rows.items) ∙ ap (λ (s : Story). length s.changes) c.self.view_is in
    rw (c.deref-2.ensures.value) (omega arith)

pub part_of-requires-clause-order : goal.part_of-requires-clause-order
part_of-requires-clause-order c =
    let s = c.self.inside in
    let row = is_row s.time s.times.items s.digits.items s.rows.items c.args.i c.row_at-row.result c.self.invariant (ap (λ rows. slice_get rows c.args.i) (sym c.deref.ensures.value) ∙ c.row_at-row.ensures) in
    rw (c.start_of-start.ensures, c.deref-2.ensures.value) row.order

pub part_of-requires-clause-within : goal.part_of-requires-clause-within
part_of-requires-clause-within c =
    let s = c.self.inside in
    let row = is_row s.time s.times.items s.digits.items s.rows.items c.args.i c.row_at-row.result c.self.invariant (ap (λ rows. slice_get rows c.args.i) (sym c.deref.ensures.value) ∙ c.row_at-row.ensures) in
    rw (c.deref-3.ensures.value) row.within

pub returns : goal.returns
returns c =
    let s = c.self.inside in
    let row = is_row s.time s.times.items s.digits.items s.rows.items c.args.i c.row_at-row.result c.self.invariant (ap (λ rows. slice_get rows c.args.i) (sym c.deref.ensures.value) ∙ c.row_at-row.ensures) in
    let start : c.start_of-start.result ≡ start_at 0 s.rows.items c.args.i = c.start_of-start.ensures ∙ ap (λ rows. start_at 0 rows c.args.i) c.deref-2.ensures.value in
    rw (c.part_of.ensures, c.deref-3.ensures.value, start) (ap (λ (s : Story). option_map (λ (change : Change). change.digits) (slice_get s.changes c.args.i)) (sym c.self.view_is) ∙ ap (option_map (λ (change : Change). change.digits)) row.change)
