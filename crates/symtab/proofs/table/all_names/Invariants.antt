use Rattle.std.proofs.Common.{take}
use Rattle.symtab.proofs.SlotLemmas.{AreChecked}
use Rattle.symtab.proofs.table.all_names.Given as goal

abbrev pub invariant-loop-slot : goal.invariant-loop-slot
invariant-loop-slot l = AreChecked l.nodes l.count l.variants (take l.slot-index l.slots) l.all.items
