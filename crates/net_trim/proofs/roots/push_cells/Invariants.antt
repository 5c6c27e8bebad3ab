use Rattle.std.proofs.Common.{◌≡◌, ◌++◌, drop}
use Rattle.net_trim.specs.Roots.{cell_ids}
use Rattle.net_trim.proofs.roots.push_cells.Given as goal

-- the cells so far, and those that are left, are all of them
abbrev pub invariant-loop-cell : goal.invariant-loop-cell
invariant-loop-cell l = l.roots.items ++ cell_ids (drop l.cell-index l.cells) ≡ l.initial.roots.items ++ cell_ids l.cells
