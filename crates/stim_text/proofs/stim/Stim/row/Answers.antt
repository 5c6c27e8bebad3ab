use Rattle.std.proofs.Common.{◌<◌, ◌*◌, length, take, drop, ap, sym, ◌∙◌, arith}
use Rattle.std.specs.Prelude.{slice_get, map}
use Rattle.stim_text.specs.Stimulus.{Stimulus, rows_in}
use Rattle.stim_text.proofs.RowLists.{length-rows_in, slice_get-rows_in, row_within, widths_at}
use Rattle.stim_text.proofs.stim.Stim.row.Goals as goal

pub row_at-requires : goal.row_at-requires
row_at-requires c =
    let s = c.self.inside in
    let counted = length-rows_in (length s.ports.inputs) s.count s.values.items in
    let below : c.args.t < s.count = omega (arith, counted, ap (λ (x : Stimulus). length x.rows) c.self.view_is) in
    rw (c.items.ensures, c.deref.ensures.value) (row_within (length s.ports.inputs) s.count c.args.t (length s.values.items) c.self.invariant.1 below)

pub returns-clause-row : goal.returns-clause-row
returns-clause-row c =
    let s = c.self.inside in
    let counted = length-rows_in (length s.ports.inputs) s.count s.values.items in
    let below : c.args.t < s.count = omega (arith, counted, ap (λ (x : Stimulus). length x.rows) c.self.view_is) in
    let cut = slice_get-rows_in (length s.ports.inputs) s.count s.values.items c.args.t below in
    rw (c.row_at.ensures, c.items.ensures, c.deref.ensures.value) (ap (λ (x : Stimulus). slice_get x.rows c.args.t) (sym c.self.view_is) ∙ cut)

pub returns-clause-widths : goal.returns-clause-widths
returns-clause-widths c =
    let s = c.self.inside in
    let counted = length-rows_in (length s.ports.inputs) s.count s.values.items in
    let below : c.args.t < s.count = omega (arith, counted, ap (λ (x : Stimulus). length x.rows) c.self.view_is) in
    let cut = slice_get-rows_in (length s.ports.inputs) s.count s.values.items c.args.t below in
    let wide = widths_at s.ports.inputs (rows_in (length s.ports.inputs) s.count s.values.items) (take (length s.ports.inputs) (drop (c.args.t * length s.ports.inputs) s.values.items)) c.args.t cut c.self.invariant.0.each in
    rw (c.row_at.ensures, c.items.ensures, c.deref.ensures.value) (wide ∙ ap (λ (x : Stimulus). map (λ input. input.1) x.ports.inputs) c.self.view_is)
