-- Which process writes each register.
use Rattle.std.specs.Prelude.{◌≡◌, ℕ, ◌&&◌, ◌==◌, Bool, true, false, List, length, Option, Some, None, find, slice_get}
use Rattle.exec_core.specs.Block.{Key, Next}
use Rattle.exec_core.specs.Whole.{Place}
use Rattle.exec_core.specs.Design.{Process, writes_to}
use Rattle.place_core.specs.Numbering.{Numbers, number_in}

-- the process of this number is the first that writes the register
pub record IsFirst (processes : List Process) (q : Place) (k : ℕ) : Type 0 where
  pub process : Process
  pub found : slice_get processes k ≡ Some process
  pub first : find (writes_to q) processes ≡ Some process

-- or none does
abbrev pub IsWriter : List Process → Place → Option ℕ → Type 0
IsWriter processes q None = find (writes_to q) processes ≡ None
IsWriter processes q (Some k) = IsFirst processes q k

-- beside the number of each place stands the process that writes it
pub record AreWriters (processes : List Process) (count : ℕ) (all : List Numbers) (list : List (Option ℕ)) : Type 0 where
  pub long : length list ≡ count
  pub each : (q : Place) (n : ℕ) (o : Option ℕ) → number_in all q ≡ Some n → slice_get list n ≡ Some o → IsWriter processes q o

-- ---- steps

-- the places of an instance whose registers are written where these keys are set
abbrev pub writes_by : ℕ → (Key → Bool) → Place → Bool
writes_by i keys q = i == q.instance && keys (Next q.name)

-- a process goes where it writes and nothing stands yet
abbrev pub first_of : Bool → ℕ → Option ℕ → Option ℕ
first_of false k o = o
first_of true k (Some j) = Some j
first_of true k None = Some k

-- a process is put beside the numbers of all places that it writes
pub record Marks (all : List Numbers) (k : ℕ) (writes : Place → Bool) (old new : List (Option ℕ)) : Type 0 where
  pub long : length new ≡ length old
  pub each : (q : Place) (n : ℕ) (o : Option ℕ) → number_in all q ≡ Some n → slice_get old n ≡ Some o → slice_get new n ≡ Some (first_of (writes q) k o)
