use Rattle.std.proofs.Common.{◌≡◌, length}
use Rattle.serde_json.specs.Data.{Members, no_members}
use Rattle.symtab_json.specs.Standing.{head_members, past_members, AreMembers}
use Rattle.symtab_json.proofs.fields.members.Given as goal

-- the fields are those of some members, which with those that are left are all
abbrev pub invariant-members : goal.invariant-members
invariant-members g l =
    AreMembers l.reader
    × (past_members l.reader ≡ past_members l.initial.reader)
    × ((known : Members) × (l.fields ≡ g.F.Fields.of l.nodes known) × (head_members known l.reader ≡ head_members no_members l.initial.reader))

abbrev pub decreases-members : goal.decreases-members
decreases-members g l = length l.reader
