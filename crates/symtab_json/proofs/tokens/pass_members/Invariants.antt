use Rattle.std.proofs.Common.{◌≡◌, length}
use Rattle.symtab_json.specs.Standing.{past_members, AreMembers}
use Rattle.symtab_json.proofs.tokens.pass_members.Given as goal

-- members are left, and the object ends where it ended
abbrev pub invariant-members : goal.invariant-members
invariant-members l = AreMembers l.reader × (past_members l.reader ≡ past_members l.initial.reader)

abbrev pub decreases-members : goal.decreases-members
decreases-members l = length l.reader
