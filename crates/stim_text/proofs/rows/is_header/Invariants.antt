use Rattle.std.proofs.Common.{◌≡◌, drop}
use Rattle.stim_text.specs.Fields.{fields}
use Rattle.stim_text.specs.Rows.{are_names}
use Rattle.stim_text.proofs.rows.is_header.Given as goal

-- what is left decides
abbrev pub invariant-loop-name : goal.invariant-loop-name
invariant-loop-name l = are_names (drop l.name-index l.inputs) (fields l.rest) ≡ are_names l.inputs (fields l.line)
