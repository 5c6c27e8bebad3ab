use Rattle.std.proofs.Common.{◌≢◌, ◌<◌, ◌+◌, ℕ}
use Rattle.vcd_read.specs.Nesting.{IsLastBegun, paths_of}
use Rattle.vcd_read.specs.Scopes.{path_at}
use Rattle.vcd_read.proofs.scopes.Scopes.has.Given as goal

-- the last scope so far whose path begins the text, and none has the text for its path
abbrev pub invariant-loop-i : goal.invariant-loop-i
invariant-loop-i l =
    IsLastBegun l.self l.path l.i l.last × ((k : ℕ) → k < l.i → path_at (paths_of l.self) (k + 1) ≢ l.path)
