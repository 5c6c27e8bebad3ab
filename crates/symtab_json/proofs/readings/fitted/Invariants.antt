use Rattle.std.proofs.Common.{◌≡◌, take}
use Rattle.symtab_json.proofs.readings.fitted.Given as goal

-- the front is the same
abbrev pub invariant-loop-place : goal.invariant-loop-place
invariant-loop-place l = l.fitted ≡ take l.place l.cells
