use Rattle.std.proofs.Common.{◌≡◌, drop}
use Rattle.symtab_json.specs.Judged.{row_outside, first_outside}
use Rattle.symtab_json.proofs.numbers.rows_outside.Given as goal

-- those that are left decide
abbrev pub invariant-loop-row : goal.invariant-loop-row
invariant-loop-row l = first_outside (row_outside l.nodes) (drop l.row-index l.rows) ≡ first_outside (row_outside l.nodes) l.rows
