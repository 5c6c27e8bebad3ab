-- How a door is asked for all links at first: how often one came, and how often none.
use Rattle.std.specs.Prelude.{◌≡◌, ◌≤◌, ◌+◌, ℕ, suc, Bool, true, false, List, [], ◌∷◌, Option, All, length}
use Rattle.link_edge.specs.Links.{Meaning, IsFresh}
use Rattle.serve_net.specs.Service.{Answers}

-- how often a link came
unfoldable pub comings : List Bool → ℕ
comings [] = 0
comings (true ∷ came) = suc (comings came)
comings (false ∷ came) = comings came

-- and how often none did
unfoldable pub failings : List Bool → ℕ
failings [] = 0
failings (true ∷ came) = failings came
failings (false ∷ came) = suc (failings came)

-- the door was asked so often: these links came, each as a door hands it out, at these times, and at the others the door failed
pub record Gathers (count : ℕ) (links : List Meaning) (came : List Bool) (left_old left_new : Option ℕ) (faults_old faults_new : ℕ) : Type 0 where
  pub counted : length came ≡ count
  pub links_are : length links ≡ comings came
  pub fresh : All IsFresh links
  pub answers : Answers (comings came) (failings came) left_old left_new faults_old faults_new

-- it was asked at most so often
pub record AsksSome (count : ℕ) (left_old left_new : Option ℕ) (faults_old faults_new : ℕ) : Type 0 where
  pub came : ℕ
  pub failing : ℕ
  pub within : came + failing ≤ count
  pub answers : Answers came failing left_old left_new faults_old faults_new
