use Rattle.std.proofs.Common.{◌≡◌, ◌++◌, take}
use Rattle.std.specs.List.{flat_map}
use Rattle.trail_out.specs.Texts.{variable_text}
use Rattle.trail_out.proofs.line.push_variables.Given as goal

-- the variables so far
abbrev pub invariant-loop-variable : goal.invariant-loop-variable
invariant-loop-variable l = l.text.items ≡ l.initial.text.items ++ flat_map variable_text (take l.variable-index l.variables)
