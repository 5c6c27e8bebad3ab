use Rattle.std.proofs.Common.{◌≡◌, take}
use Rattle.symtab.proofs.names_in_scope.Names.are.Given as goal

abbrev pub invariant-loop-place : goal.invariant-loop-place
invariant-loop-place l = take l.place l.self ≡ take l.place l.texts
