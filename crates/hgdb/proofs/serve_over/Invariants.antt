use Rattle.std.proofs.Common.{◌≤◌, All, length}
use Rattle.hgdb.proofs.serve_over.Given as goal

-- each set is short
abbrev pub invariant-loop : goal.invariant-loop
invariant-loop g l = All (λ s. length s.items ≤ 65536) l.sets.items
