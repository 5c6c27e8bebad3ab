use Rattle.std.proofs.Common.{◌≡◌, ◌++◌, ◌∷◌, [], drop}
use Rattle.hub_core.specs.Hubs.{to_each}
use Rattle.hub_core.proofs.hub.lines_for.Given as goal

abbrev pub invariant-loop-k : goal.invariant-loop-k
invariant-loop-k l = l.lines.items ++ to_each l.k (drop l.k l.here) (l.text ∷ []) ≡ to_each 0 l.here (l.text ∷ [])
