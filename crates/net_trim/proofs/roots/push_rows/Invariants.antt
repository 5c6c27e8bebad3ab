use Rattle.std.proofs.Common.{◌≡◌, ◌++◌, take}
use Rattle.std.specs.List.{flat_map}
use Rattle.net_trim.specs.Roots.{row_ids}
use Rattle.net_trim.proofs.roots.push_rows.Given as goal

-- the rows so far
abbrev pub invariant-loop-row : goal.invariant-loop-row
invariant-loop-row l = l.roots.items ≡ l.initial.roots.items ++ flat_map row_ids (take l.row-index l.rows)
