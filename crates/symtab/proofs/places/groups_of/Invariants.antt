use Rattle.std.proofs.Common.{◌≡◌, ℕ, take}
use Rattle.symtab.specs.Places.{places}
use Rattle.symtab.specs.Tables.{group_of}
use Rattle.symtab.proofs.places.groups_of.Given as goal

-- each number has the places where it stands in the front
abbrev pub invariant-loop-place : goal.invariant-loop-place
invariant-loop-place l = (number : ℕ) → group_of l.groups number ≡ places number (take l.place l.numbers)
