use Rattle.std.proofs.Common.{◌≡◌, drop}
use Rattle.symtab_json.specs.Judged.{slot_outside, first_outside}
use Rattle.symtab_json.proofs.numbers.slots_outside.Given as goal

-- those that are left decide
abbrev pub invariant-loop-slot : goal.invariant-loop-slot
invariant-loop-slot l = first_outside (slot_outside l.variants l.nodes) (drop l.slot-index l.slots) ≡ first_outside (slot_outside l.variants l.nodes) l.slots
