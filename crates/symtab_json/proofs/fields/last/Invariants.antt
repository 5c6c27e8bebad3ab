use Rattle.std.proofs.Common.{◌≡◌, length, option_and_then}
use Rattle.serde_json.specs.Data.{Members, no_members}
use Rattle.serde_json.specs.Find.{get_member}
use Rattle.symtab_json.specs.Standing.{head_members, AreMembers}
use Rattle.symtab_json.proofs.fields.last.Given as goal

-- what was found is what some members tell, which with those that are left are all
abbrev pub invariant-members : goal.invariant-members
invariant-members g l =
    AreMembers l.reader
    × ((known : Members) × (l.found ≡ option_and_then (g.T.Told.told l.nodes) (get_member l.wanted known)) × (head_members known l.reader ≡ head_members no_members l.initial.reader))

abbrev pub decreases-members : goal.decreases-members
decreases-members g l = length l.reader
