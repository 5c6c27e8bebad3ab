use Rattle.std.proofs.Common.{◌≡◌, take}
use Rattle.symtab.proofs.cells.Cells.of.Given as goal

abbrev pub invariant-loop-binding : goal.invariant-loop-binding
invariant-loop-binding l = l.cells ≡ take l.binding-index l.bindings
