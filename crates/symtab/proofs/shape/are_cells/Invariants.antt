use Rattle.std.proofs.Common.{All, take}
use Rattle.symtab.specs.Shape.{IsCell}
use Rattle.symtab.proofs.shape.are_cells.Given as goal

abbrev pub invariant-loop-place : goal.invariant-loop-place
invariant-loop-place l = All (IsCell l.nodes) (take l.place l.cells)
