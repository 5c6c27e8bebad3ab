use Rattle.std.proofs.Common.{◌≡◌, ◌≤◌, ◌↔◌, length}
use Rattle.vcd_read.specs.Nesting.{paths_of}
use Rattle.vcd_read.specs.Scopes.{path_at}
use Rattle.vcd_read.proofs.scopes.Scopes.is_path.Given as goal

-- what is left of the path is that of a number, where all of it is that of the first
abbrev pub invariant-loop-number : goal.invariant-loop-number
invariant-loop-number l =
    (l.number ≤ length l.self) × ((path_at (paths_of l.self) l.number ≡ l.rest) ↔ (path_at (paths_of l.self) l.initial.number ≡ l.initial.rest))

abbrev pub decreases-loop-number : goal.decreases-loop-number
decreases-loop-number l = l.number
