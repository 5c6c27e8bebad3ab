use Rattle.std.proofs.Common.{◌≡◌, length, ap, ◌∙◌, subst}
use Rattle.std.specs.Prelude.{IfOk}
use Rattle.site_core.specs.Sampled.{cycle_samples}
use Rattle.dbg_core.specs.Shown.{cells_shown}
use Rattle.dbg_core.proofs.Cells.{cells_long, cells_told, cells_among}
use Rattle.dbg_core.proofs.stops.values_in.Goals as goal

pub values_of-requires-clause-long : goal.values_of-requires-clause-long
values_of-requires-clause-long g c =
    ap length c.items.ensures ∙ cells_long c.args.table.now c.parts-parts.ensures.table c.args.slot c.args.instance c.slot.result.now c.cells_of-cells.result.now c.slot.ensures c.cells_of-cells.ensures

pub values_of-requires-clause-among : goal.values_of-requires-clause-among
values_of-requires-clause-among g c =
    cells_among c.args.table.now c.parts-parts.ensures.table c.args.slot c.args.instance c.slot.result.now c.cells_of-cells.result.now c.slot.ensures c.cells_of-cells.ensures
    (g.T.Trace.samples c.args.trace.now) c.requires.fits

pub returns : goal.returns
returns g c =
    let samples = cycle_samples (g.T.Trace.samples c.args.trace.now) (g.T.Trace.cursor c.args.trace.now) in
    let same = ap (λ names. cells_shown samples names c.cells_of-cells.result.now) c.items.ensures
    ∙ cells_told c.args.table.now c.parts-parts.ensures.table c.args.slot c.args.instance c.slot.result.now c.cells_of-cells.result.now c.slot.ensures c.cells_of-cells.ensures samples in
    subst (λ shown. IfOk c.values_of.result (λ values. values.items ≡ shown)) same c.values_of.ensures
