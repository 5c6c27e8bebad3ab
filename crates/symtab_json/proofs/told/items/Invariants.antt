use Rattle.std.proofs.Common.{◌≡◌, length}
use Rattle.symtab_json.specs.Entries.{told_items}
use Rattle.symtab_json.specs.Standing.{head_items, past_items, AreItems}
use Rattle.symtab_json.proofs.Behind.{behind}
use Rattle.symtab_json.proofs.told.items.Given as goal

-- the entries so far, with what is told of those that are left, are what is told of all
abbrev pub invariant-items : goal.invariant-items
invariant-items g l =
    AreItems l.reader
    × (behind l.list.items (told_items (g.T.Told.told l.nodes) (head_items l.reader)) ≡ told_items (g.T.Told.told l.nodes) (head_items l.initial.reader))
    × (past_items l.reader ≡ past_items l.initial.reader)

abbrev pub decreases-items : goal.decreases-items
decreases-items g l = length l.reader
