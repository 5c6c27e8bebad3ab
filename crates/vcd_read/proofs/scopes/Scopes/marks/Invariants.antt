use Rattle.std.proofs.Common.{◌≡◌, ◌+◌, ◌∷◌, [], map, take}
use Rattle.std.specs.Prelude.{bytes_eq}
use Rattle.vcd_read.specs.Nesting.{IsLastBegun, paths_of}
use Rattle.vcd_read.proofs.scopes.Scopes.marks.Given as goal

-- the last scope so far whose path begins the text, and the marks so far
abbrev pub invariant-loop-i : goal.invariant-loop-i
invariant-loop-i l =
    IsLastBegun l.self l.path l.i l.last × (l.marks.items ≡ map (λ other. bytes_eq other l.path) (take (l.i + 1) ([] ∷ paths_of l.self)))
