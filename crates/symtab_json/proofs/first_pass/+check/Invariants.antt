use Rattle.std.proofs.Common.{◌≡◌, ◌+◌, ◌*◌, ◌≤◌, length}
use Rattle.symtab_json.specs.Standing.{passed_items, passed_members}
use Rattle.symtab_json.proofs.first_pass.+check.Given as goal

abbrev pub decreases-check_value : goal.decreases-check_value
decreases-check_value l = 2 * l.depth

abbrev pub decreases-check_items : goal.decreases-check_items
decreases-check_items l = 2 * l.depth + 1

abbrev pub decreases-check_members : goal.decreases-check_members
decreases-check_members l = 2 * l.depth + 1

-- what is left decides
abbrev pub invariant-check_items-items : goal.invariant-check_items-items
invariant-check_items-items l = (passed_items l.depth l.reader ≡ passed_items l.depth l.initial.reader) × (length l.reader ≤ length l.initial.reader)

abbrev pub decreases-check_items-items : goal.decreases-check_items-items
decreases-check_items-items l = length l.reader

-- what is left decides
abbrev pub invariant-check_members-members : goal.invariant-check_members-members
invariant-check_members-members l = (passed_members l.depth l.reader ≡ passed_members l.depth l.initial.reader) × (length l.reader ≤ length l.initial.reader)

abbrev pub decreases-check_members-members : goal.decreases-check_members-members
decreases-check_members-members l = length l.reader
