use Rattle.std.proofs.Common.{◌≡◌, ◌+◌, length}
use Rattle.serde_json.specs.Events.{items_len}
use Rattle.symtab_json.specs.Standing.{head_items, past_items, AreItems}
use Rattle.symtab_json.proofs.told.count_items.Given as goal

-- the entries so far, with those that are left, are all
abbrev pub invariant-items : goal.invariant-items
invariant-items l =
    AreItems l.reader × (l.count + items_len (head_items l.reader) ≡ items_len (head_items l.initial.reader)) × (past_items l.reader ≡ past_items l.initial.reader)

abbrev pub decreases-items : goal.decreases-items
decreases-items l = length l.reader
