-- One time that the door is asked: what it adds to what was done before.
use Rattle.std.specs.Prelude.{◌≡◌, ◌≢◌, ◌≤◌, ◌⊎◌, ℕ, List, [], ◌∷◌, ◌++◌, Option, Result, Ok, Err}
use Rattle.io_edge.specs.Faults.{Rose}
use Rattle.io_edge.specs.Taken.{Appends, AppendsFront}
use Rattle.listen.specs.Pairs.{Heard}
use Rattle.link_edge.specs.Links.{Meaning}
use Rattle.link_edge.specs.Doors.{OneLess}
use Rattle.link_edge.specs.declared.answers.End.TheVariants as ends
use Rattle.io_edge.specs.declared.sink_end.SinkEnd.{SinkEnd}
use Rattle.io_edge.specs.declared.sink_end.SinkEnd.TheVariants as sink_ends
use Rattle.text_core.specs.declared.memory.NoMemory.{NoMemory}
use Rattle.duo_run.specs.declared.served.Served.{Served}
use Rattle.serve_net.specs.declared.visit.Visit.{Visit}
use Rattle.serve_net.specs.declared.visit.Visit.TheVariants.{NoLink, Linked}
use Rattle.serve_net.specs.Visits.{visit_line}
use Rattle.show_net.specs.Over.{Over}
use Rattle.serve_net.specs.Members.{told_of, IsMember, next_of, behind_next}

-- a connection was kept: it stands last, and has a visit unless it ended for want of memory; or there was no room for it
abbrev pub Keeps : {L : Type 0} → List (Served L) → List (Served L) → Served L → Result Visit NoMemory → Type 0
Keeps old new s (Ok visit) = (new ≡ old ++ s ∷ []) × (visit ≡ Linked (told_of s).0 (told_of s).1) × (s.end ≢ ends.NoMemory)
Keeps old new s (Err e) = (new ≡ old) ⊎ ((new ≡ old ++ s ∷ []) × (s.end ≡ ends.NoMemory))

-- a link was taken from the door
pub record TakesLink (left_old left_new : Option ℕ) (faults_old faults_new : ℕ) : Type 0 where
  pub left : OneLess left_old left_new
  pub later : faults_old ≤ faults_new

-- a connection from the next set of listeners stands last
pub record Adds {L : Type 0} (meant : L → Meaning) (over : Over) (sets : List (List Heard)) (old new : List (Served L)) (s : Served L) : Type 0 where
  pub member : IsMember meant over (next_of sets) s
  pub kept : new ≡ old ++ s ∷ []

-- the door failed, or a link came and was served, and memory lasted
pub data Attends {L : Type 0} (meant : L → Meaning) (over : Over) (sets sets_new : List (List Heard)) (old new : List (Served L)) (left_old left_new : Option ℕ) (faults_old faults_new : ℕ) (visit : Visit) : Type 0 where
  failed : visit ≡ NoLink → sets_new ≡ sets → new ≡ old → left_new ≡ left_old → Rose faults_old faults_new → Attends meant over sets sets_new old new left_old left_new faults_old faults_new visit
  linked : (s : Served L) → visit ≡ Linked (told_of s).0 (told_of s).1 → sets_new ≡ behind_next sets → s.end ≢ ends.NoMemory → Adds meant over sets old new s → TakesLink left_old left_new faults_old faults_new → Attends meant over sets sets_new old new left_old left_new faults_old faults_new visit

-- memory ran out: at the door, at a link that came and is lost, or in its connection
pub data Breaks {L : Type 0} (meant : L → Meaning) (over : Over) (sets : List (List Heard)) (old new : List (Served L)) (left_old left_new : Option ℕ) (faults_old faults_new : ℕ) : Type 0 where
  at_door : new ≡ old → left_new ≡ left_old → faults_old ≤ faults_new → Breaks meant over sets old new left_old left_new faults_old faults_new
  lost : new ≡ old → TakesLink left_old left_new faults_old faults_new → Breaks meant over sets old new left_old left_new faults_old faults_new
  ended : (s : Served L) → s.end ≡ ends.NoMemory → Adds meant over sets old new s → TakesLink left_old left_new faults_old faults_new → Breaks meant over sets old new left_old left_new faults_old faults_new

-- and the line of it was written
pub record Visited {L : Type 0} (meant : L → Meaning) (over : Over) (sets sets_new : List (List Heard)) (old new : List (Served L)) (left_old left_new : Option ℕ) (faults_old faults_new number : ℕ) (before now : Option (List ℕ)) : Type 0 where
  pub visit : Visit
  pub attends : Attends meant over sets sets_new old new left_old left_new faults_old faults_new visit
  pub taken : Appends before now (visit_line number visit)

-- memory ran out before there was a line, or the line was not written
pub data Halted {L : Type 0} (meant : L → Meaning) (over : Over) (sets : List (List Heard)) (old new : List (Served L)) (left_old left_new : Option ℕ) (faults_old faults_new number : ℕ) (before now : Option (List ℕ)) (end : SinkEnd) : Type 0 where
  starved : end ≡ sink_ends.NoMemory → Breaks meant over sets old new left_old left_new faults_old faults_new → now ≡ before → Halted meant over sets old new left_old left_new faults_old faults_new number before now end
  unwritten : (sets_new : List (List Heard)) (visit : Visit) → Attends meant over sets sets_new old new left_old left_new faults_old faults_new visit → AppendsFront before now (visit_line number visit) → Halted meant over sets old new left_old left_new faults_old faults_new number before now end
