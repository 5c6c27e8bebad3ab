use Rattle.std.proofs.Common.{◌≡◌, ◌++◌, drop, get_or, false}
use Rattle.vcd_read.specs.Scopes.{places_from}
use Rattle.vcd_read.proofs.vcd.places_in.Given as goal

-- the places so far, and those that are left, are all
abbrev pub invariant-loop-i : goal.invariant-loop-i
invariant-loop-i l =
    l.places.items ++ places_from l.i (λ var. get_or l.marks var.scope false) (drop l.i l.vars) ≡ places_from 0 (λ var. get_or l.marks var.scope false) l.vars
