use Rattle.std.proofs.Common.{Some, refl, sym, ap, ◌∙◌}
use Rattle.symtab.specs.declared.parts.Row.{Row}
use Rattle.std.specs.Prelude.{slice_get}
use Rattle.dbg_core.proofs.Cells.{cells_are}
use Rattle.dbg_core.proofs.sampled.cells_of.Goals as goal

pub returns : goal.returns
returns c =
    let listed = ap (λ xs. slice_get xs c.place_of-place.result) (sym c.instances_of.ensures.instances) ∙ c.place_of-place.ensures in
    cells_are c.args.table.now c.parts-parts.ensures.table c.args.slot c.args.instance c.place_of-place.result c.slot.result.now c.items.result.now c.index-items-place.result c.index-items-place.result.cells
    c.slot.ensures listed c.items.ensures c.index-items-place.is refl ∙ ap (λ (row : Row). Some row.cells) c.index-items-place.is
