use Rattle.std.proofs.Common.{◌≡◌, ◌++◌, drop, map, false, nat_lt}
use Rattle.serde_json.specs.View.{items_of}
use Rattle.serde_json.specs.Written.{items_text}
use Rattle.symtab_json.specs.Files.{cell_json}
use Rattle.symtab_json.proofs.parts.push_cells.Given as goal

-- what was added, with what is left, is all
abbrev pub invariant-loop-place : goal.invariant-loop-place
invariant-loop-place l =
    l.text.items ++ items_text (nat_lt 0 l.place) (items_of (map cell_json (drop l.place l.cells))) ≡ l.initial.text.items ++ items_text false (items_of (map cell_json l.cells))
