use Rattle.std.proofs.Common.{◌≡◌, ℕ, take, map, length}
use Rattle.symtab.specs.Places.{places}
use Rattle.symtab_json.specs.Places.{times_counted}
use Rattle.symtab_json.proofs.judged.counts_of.Given as goal

-- the front was times_counted
abbrev pub invariant-loop-instance : goal.invariant-loop-instance
invariant-loop-instance l =
    (number : ℕ) → times_counted l.counts number ≡ length (places number (take l.instance-index (map (λ instance. instance.variant) l.instances)))
