-- A service to all clients at once: how often the door was asked, the hub of those that came, and what was written.
use Rattle.std.specs.Prelude.{◌≡◌, ◌≢◌, ◌≤◌, ◌+◌, ◌⊎◌, ℕ, Bool, true, false, List, [], ◌∷◌, ◌++◌, Option, Some, None, Result, Ok, Err, IfSome, All, length}
use Rattle.io_edge.specs.Taken.{Appends, AppendsFront}
use Rattle.io_edge.specs.declared.sink_end.SinkEnd.{SinkEnd}
use Rattle.io_edge.specs.declared.sink_end.SinkEnd.TheVariants as sink_ends
use Rattle.listen.specs.Pairs.{Heard}
use Rattle.link_edge.specs.Links.{Meaning}
use Rattle.link_edge.specs.declared.answers.End.TheVariants.{NoMemory}
use Rattle.hub_core.specs.declared.served.HubServed.{HubServed}
use Rattle.hub_core.specs.declared.served.HubEnd.TheVariants as hub_ends
use Rattle.run_status.specs.Statuses.{status_of}
use Rattle.run_status.specs.declared.Ending.TheVariants as ends
use Rattle.serve_net.specs.declared.visit.Visit.{Visit}
use Rattle.serve_net.specs.Visits.{Told, HasLine, links_in, failures_in, lines_from}
use Rattle.serve_net.specs.Service.{Answers}
use Rattle.show_net.specs.Over.{Over}
use Rattle.hub_net.specs.Clients.{IsHub, client, told_in}

-- where no link came there is no session; and where some came, there is the hub of them
abbrev pub IsHubOf : {L : Type 0} → (L → Meaning) → Over → List Heard → ℕ → Option (HubServed L) → Type 0
IsHubOf meant over heard came None = came ≡ 0
IsHubOf meant over heard came (Some hub) = IsHub meant over heard came hub × (1 ≤ came)

-- every client has left
abbrev pub AllAreGone : {L : Type 0} → Option (HubServed L) → Type 0
AllAreGone hub = IfSome hub (λ h. h.end ≡ hub_ends.AllLeft)

-- the door was asked so often, those that came were served, and all of it was told
pub record ServesAtOnce {L : Type 0} (meant : L → Meaning) (over : Over) (heard : List Heard) (count : ℕ) (left_old left_new : Option ℕ) (faults_old faults_new : ℕ) (hub : Option (HubServed L)) (old new : Option (List ℕ)) : Type 0 where
  pub visits : List Visit
  pub counted : length visits ≡ count
  pub lines : All HasLine visits
  -- the links among them are the clients, and as many were taken from the door
  pub told : told_in hub ≡ links_in visits
  pub answers : Answers (length (links_in visits)) (failures_in visits) left_old left_new faults_old faults_new
  pub hub_is : IsHubOf meant over heard (length (links_in visits)) hub
  pub all_gone : AllAreGone hub
  pub taken : Appends old new (lines_from client 0 visits)

-- the clients that are not told: the first of them ended for want of memory
abbrev pub AreUntold : List Told → Type 0
AreUntold untold = (untold ≡ []) ⊎ ((requests : ℕ) × (more : List Told) × (untold ≡ (NoMemory, requests) ∷ more))

-- it was asked at most so often, and a front of it was told
pub record ServesSomeAtOnce {L : Type 0} (meant : L → Meaning) (over : Over) (heard : List Heard) (count : ℕ) (left_old left_new : Option ℕ) (faults_old faults_new : ℕ) (hub : Option (HubServed L)) (old new : Option (List ℕ)) (status : ℕ) : Type 0 where
  pub came : ℕ
  pub failing : ℕ
  pub asked : came + failing ≤ count
  pub answers : Answers came failing left_old left_new faults_old faults_new
  pub hub_is : IfSome hub (λ h. IsHub meant over heard came h)
  pub visits : List Visit
  pub within : length visits ≤ count
  pub lines : All HasLine visits
  pub untold : List Told
  pub told : told_in hub ≡ links_in visits ++ untold
  pub untold_are : AreUntold untold
  pub taken : AppendsFront old new (lines_from client 0 visits)
  -- the door was asked so often, and those that came were served, where memory did not run out
  pub whole : status ≢ 9 → (came + failing ≡ count) × IsHubOf meant over heard came hub

-- by what was told: all of it, a front of it, or up to a client that ended for want of memory
abbrev pub told_status : Result Bool SinkEnd → ℕ
told_status (Ok true) = status_of ends.Written
told_status (Ok false) = status_of ends.OutOfMemory
told_status (Err sink_ends.Failed) = status_of ends.NotTaken
told_status (Err sink_ends.NoMemory) = status_of ends.OutOfMemory
