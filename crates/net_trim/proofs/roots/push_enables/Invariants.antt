use Rattle.std.proofs.Common.{◌≡◌, ◌++◌, drop, map}
use Rattle.net_trim.specs.Roots.{on_of}
use Rattle.net_trim.proofs.roots.push_enables.Given as goal

-- the enables so far, and those that are left, are all of them
abbrev pub invariant-loop-row : goal.invariant-loop-row
invariant-loop-row l = l.roots.items ++ map on_of (drop l.row-index l.rows) ≡ l.initial.roots.items ++ map on_of l.rows
