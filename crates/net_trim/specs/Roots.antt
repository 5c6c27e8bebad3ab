-- The nodes that are asked for of a lowered design.
use Rattle.std.specs.Prelude.{ℕ, List, [], ◌∷◌, ◌++◌, map, Option, Some, None}
use Rattle.std.specs.List.{flat_map}
use Rattle.bv_core.specs.declared.reference.NodeId.{NodeId}
use Rattle.lower_core.specs.declared.row.FullRow.{FullRow}
use Rattle.world_core.specs.declared.mode.Mode.{Mode}
use Rattle.world_core.specs.declared.mode.Mode.TheVariants.{Opt, Keep}

abbrev pub id_of : List ℕ × ℕ → NodeId
id_of output = record { 0 = output.1 }

abbrev pub on_of : FullRow → NodeId
on_of row = row.on

-- the nodes of cells, in order
abbrev pub cell_ids : List (Option NodeId) → List NodeId
cell_ids [] = []
cell_ids (None ∷ cells) = cell_ids cells
cell_ids (Some id ∷ cells) = id ∷ cell_ids cells

abbrev pub row_ids : FullRow → List NodeId
row_ids row = cell_ids row.cells

abbrev pub named_ids : Mode → List FullRow → List NodeId
named_ids Opt rows = []
named_ids Keep rows = flat_map row_ids rows

-- those of the outputs, of the enables and, where names are kept, of the cells
abbrev pub root_ids : List (List ℕ × ℕ) → Mode → List FullRow → List NodeId
root_ids outputs mode rows = map id_of outputs ++ (map on_of rows ++ named_ids mode rows)
