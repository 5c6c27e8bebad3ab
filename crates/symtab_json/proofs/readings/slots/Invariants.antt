use Rattle.std.proofs.Common.{◌≡◌, length}
use Rattle.symtab_json.specs.Entries.{told_slot, told_items}
use Rattle.symtab_json.specs.Standing.{head_items, past_items, AreItems}
use Rattle.symtab_json.proofs.Behind.{behind}
use Rattle.symtab_json.proofs.readings.slots.Given as goal

-- the slots so far, with what is told of those that are left, are what is told of all
abbrev pub invariant-items : goal.invariant-items
invariant-items l =
    AreItems l.reader
    × (behind l.slots.items (told_items (told_slot l.filed l.nodes) (head_items l.reader)) ≡ told_items (told_slot l.filed l.nodes) (head_items l.initial.reader))
    × (past_items l.reader ≡ past_items l.initial.reader)

abbrev pub decreases-items : goal.decreases-items
decreases-items l = length l.reader
