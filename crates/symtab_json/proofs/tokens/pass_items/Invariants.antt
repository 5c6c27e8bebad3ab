use Rattle.std.proofs.Common.{◌≡◌, length}
use Rattle.symtab_json.specs.Standing.{past_items, AreItems}
use Rattle.symtab_json.proofs.tokens.pass_items.Given as goal

-- entries are left, and the list ends where it ended
abbrev pub invariant-items : goal.invariant-items
invariant-items l = AreItems l.reader × (past_items l.reader ≡ past_items l.initial.reader)

abbrev pub decreases-items : goal.decreases-items
decreases-items l = length l.reader
