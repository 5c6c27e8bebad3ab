-- A service: how often the door was asked, what came of it, and what was written.
use Rattle.std.specs.Prelude.{◌≡◌, ◌≢◌, ◌≤◌, ◌+◌, ◌-◌, ◌^◌, ◌⊎◌, ◌==◌, ◌||◌, ℕ, Bool, List, [], ◌∷◌, ◌++◌, Option, All, length, map, min}
use Rattle.std.specs.Option.{option_map}
use Rattle.io_edge.specs.Taken.{Appends, AppendsFront}
use Rattle.listen.specs.Pairs.{Heard}
use Rattle.link_edge.specs.Links.{Meaning}
use Rattle.link_edge.specs.declared.answers.End.TheVariants.{NoMemory}
use Rattle.io_edge.specs.declared.sink_end.SinkEnd.{SinkEnd}
use Rattle.io_edge.specs.declared.sink_end.SinkEnd.TheVariants as sink_ends
use Rattle.duo_run.specs.declared.served.Served.{Served}
use Rattle.run_status.specs.Statuses.{status_of}
use Rattle.run_status.specs.declared.Ending.TheVariants as ends
use Rattle.serve_net.specs.declared.visit.Visit.{Visit}
use Rattle.serve_net.specs.Visits.{Told, HasLine, links_in, failures_in, visits_text}
use Rattle.show_net.specs.Over.{Over}
use Rattle.serve_net.specs.Members.{told_of, AreMembers}

-- so many links were taken from a door, where it tells how many it has, and it failed at least so often, or its count stands at its end
pub record Answers (came failing : ℕ) (left_old left_new : Option ℕ) (faults_old faults_new : ℕ) : Type 0 where
  pub links : left_old ≡ option_map (λ left. left + came) left_new
  pub failures : min (faults_old + failing) (2 ^ 64 - 1) ≤ faults_new

-- of a connection that ended for want of memory there is no line
abbrev pub IsUntold : List Told → Type 0
IsUntold untold = (untold ≡ []) ⊎ ((requests : ℕ) × (untold ≡ (NoMemory, requests) ∷ []))

-- these visits, each of which has a line, and of each link that came what its connection was: the last may be none of them, and one link more
-- may have come that was not served, where memory ran out
pub record Came {L : Type 0} (meant : L → Meaning) (over : Over) (sets : List (List Heard)) (left_old left_new : Option ℕ) (faults_old faults_new : ℕ) (served : List (Served L)) (visits : List Visit) (untold : List Told) (unserved : ℕ) : Type 0 where
  pub answers : Answers (length served + unserved) (failures_in visits) left_old left_new faults_old faults_new
  pub lines : All HasLine visits
  pub told : map told_of served ≡ links_in visits ++ untold
  pub members : AreMembers meant over sets served

-- the door was asked so often, and all of it was told
pub record ServesAll {L : Type 0} (meant : L → Meaning) (over : Over) (sets : List (List Heard)) (count : ℕ) (left_old left_new : Option ℕ) (faults_old faults_new : ℕ) (served : List (Served L)) (old new : Option (List ℕ)) : Type 0 where
  pub visits : List Visit
  pub counted : length visits ≡ count
  pub came : Came meant over sets left_old left_new faults_old faults_new served visits [] 0
  pub taken : Appends old new (visits_text visits)

-- it was asked at most so often, and a front of it was told
pub record ServesSome {L : Type 0} (meant : L → Meaning) (over : Over) (sets : List (List Heard)) (count : ℕ) (left_old left_new : Option ℕ) (faults_old faults_new : ℕ) (served : List (Served L)) (old new : Option (List ℕ)) (status : ℕ) : Type 0 where
  pub visits : List Visit
  pub untold : List Told
  pub unserved : ℕ
  pub within : length visits ≤ count
  pub came : Came meant over sets left_old left_new faults_old faults_new served visits untold unserved
  pub taken : AppendsFront old new (visits_text visits)
  pub few : unserved ≤ 1
  pub untold_is : IsUntold untold
  -- each link that came was served and stands among the visits, where memory did not run out
  pub whole : status ≢ 9 → (untold ≡ []) × (unserved ≡ 0)

-- ---- the statuses

abbrev pub end_status : SinkEnd → ℕ
end_status sink_ends.Failed = status_of ends.NotTaken
end_status sink_ends.NoMemory = status_of ends.OutOfMemory

abbrev pub is_end_status : ℕ → Bool
is_end_status status = status == status_of ends.Written || status == status_of ends.NotTaken || status == status_of ends.OutOfMemory
