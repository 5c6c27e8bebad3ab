use Rattle.std.proofs.Common.{◌≡◌, drop}
use Rattle.std.specs.Prelude.{IsTrue}
use Rattle.std.specs.List.{zip, list_all}
use Rattle.design_core.specs.Ports.{has_width}
use Rattle.stim_text.specs.Fields.{fields}
use Rattle.stim_text.specs.Rows.{after, values_from}
use Rattle.stim_text.proofs.rows.push_values.Given as goal

-- the values so far, and those of the inputs and fields that are left
abbrev pub invariant-loop-width : goal.invariant-loop-width
invariant-loop-width l =
    (l.column ≡ l.width-index) × IsTrue (list_all has_width (drop l.width-index l.inputs))
    × (after l.values.items (values_from l.row l.column (zip (drop l.width-index l.inputs) (fields l.rest))) ≡ after l.initial.values.items (values_from l.row 0 (zip l.inputs (fields l.line))))
