use Rattle.std.proofs.Common.{◌≡◌, drop}
use Rattle.symtab_json.specs.Judged.{cell_outside, first_outside}
use Rattle.symtab_json.proofs.numbers.cells_outside.Given as goal

-- those that are left decide
abbrev pub invariant-loop-place : goal.invariant-loop-place
invariant-loop-place l = first_outside (cell_outside l.nodes) (drop l.place l.cells) ≡ first_outside (cell_outside l.nodes) l.cells
