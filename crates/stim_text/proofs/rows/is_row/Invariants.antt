use Rattle.std.proofs.Common.{◌≡◌, drop}
use Rattle.stim_text.specs.Fields.{fields}
use Rattle.stim_text.specs.Rows.{are_numbers}
use Rattle.stim_text.proofs.rows.is_row.Given as goal

-- what is left decides
abbrev pub invariant-loop-input : goal.invariant-loop-input
invariant-loop-input l = are_numbers (drop l._input-index l.inputs) (fields l.rest) ≡ are_numbers l.inputs (fields l.line)
