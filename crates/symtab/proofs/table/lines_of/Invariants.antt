use Rattle.std.proofs.Common.{◌≡◌, take}
use Rattle.symtab.specs.Shape.{lines_of}
use Rattle.symtab.proofs.table.lines_of.Given as goal

abbrev pub invariant-loop-slot : goal.invariant-loop-slot
invariant-loop-slot l = l.lines.items ≡ lines_of (take l.slot-index l.slots)
