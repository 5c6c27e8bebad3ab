-- What each served connection is, and which listeners it had.
use Rattle.std.specs.Prelude.{◌≡◌, List, [], ◌∷◌, length}
use Rattle.bv_core.specs.Value.{Bits}
use Rattle.exec_core.specs.Whole.{Place}
use Rattle.listen.specs.Pairs.{Heard}
use Rattle.machine_core.specs.Reading.{Reader, IsReader}
use Rattle.machine_core.specs.Machine.{opening}
use Rattle.link_edge.specs.Links.{Meaning, IsFresh, after_close}
use Rattle.duo_run.specs.declared.served.Served.{Served}
use Rattle.duo_run.specs.Journals.{requests_of}
use Rattle.duo_run.specs.Connections.{Carries, Applies}
use Rattle.serve_net.specs.Visits.{Told}
use Rattle.show_net.specs.Over.{Over, world_over, RunsAs}

-- how it ended, and after how many requests
abbrev pub told_of : {L : Type 0} → Served L → Told
told_of s = (s.end, length (requests_of s.journal.items))

-- A link was served from the listeners that mean this, and then closed: all that it received and sent passed through it since it came,
-- and the session is one over each run of what is shown.
pub record IsMember {L : Type 0} (meant : L → Meaning) (over : Over) (heard : List Heard) (s : Served L) : Type 0 where
  pub start : Meaning
  pub fresh : IsFresh start
  pub now : Meaning
  pub carried : Carries start now s.journal.items s.unapplied.items s.sent.items s.unsent.items s.end
  pub closed : meant s.link ≡ after_close now
  pub applied : (run : List (Place → Bits)) → RunsAs over run → (read : Reader) → IsReader read → Applies read (world_over over run) (opening heard) s.journal.items s.sent.items s.unsent.items s.end

-- the set of listeners that comes next, of those to come; and those behind it: there is no listener behind the last set
abbrev pub next_of : List (List Heard) → List Heard
next_of [] = []
next_of (heard ∷ sets) = heard

abbrev pub behind_next : List (List Heard) → List (List Heard)
behind_next [] = []
behind_next (heard ∷ sets) = sets

-- each is a connection from the set of listeners that came next
unfoldable pub AreMembers : {L : Type 0} → (L → Meaning) → Over → List (List Heard) → List (Served L) → Type 0
AreMembers meant over sets [] = Unit {0}
AreMembers meant over sets (s ∷ served) = IsMember meant over (next_of sets) s × AreMembers meant over (behind_next sets) served
