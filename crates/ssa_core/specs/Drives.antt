-- What drives the signals of a design, by their numbers: a link or a process.
use Rattle.std.specs.Prelude.{◌≡◌, ℕ, ◌<◌, true, List, length, Option, Some, None, slice_get, slice_set}
use Rattle.exec_core.specs.Block.{Name, own}
use Rattle.exec_core.specs.Whole.{Place}
use Rattle.exec_core.specs.Design.{Process, place}
use Rattle.design_core.specs.Design as design
use Rattle.names.specs.Known.{Known}
use Rattle.place_core.specs.Numbering.{Numbers, number_in}
use Rattle.ssa_core.specs.declared.link.Link.{Link}
use Rattle.ssa_core.specs.declared.process.ProcessKey.{ProcessKey}
use Rattle.ssa_core.specs.declared.drive.Drive.{Drive}
use Rattle.ssa_core.specs.declared.drive.Drive.TheVariants as drives
use Rattle.ssa_core.specs.Links.{link_as}
use Rattle.ssa_core.specs.Processes.{process_at}

-- each place has a number below this, and no two have one
pub record AreApart (count : ℕ) (all : List Numbers) : Type 0 where
  pub below : (p : Place) (n : ℕ) → number_in all p ≡ Some n → n < count
  pub apart : (p q : Place) (n : ℕ) → number_in all p ≡ Some n → number_in all q ≡ Some n → p ≡ q

-- the link of this number goes to the place; the process of this number assigns it
pub record LinkDrives (links : List Link) (l : ℕ) (p : Place) : Type 0 where
  pub link : Link
  pub found : slice_get links l ≡ Some link
  pub target : (link_as link).0 ≡ p

pub record ProcessDrives (d : design.Design) (keys : List ProcessKey) (k : ℕ) (p : Place) : Type 0 where
  pub key : ProcessKey
  pub found : slice_get keys k ≡ Some key
  pub process : Process
  pub is : process_at d key ≡ Some process
  pub instance : process.instance ≡ p.instance
  pub owns : own process.body p.name ≡ true

abbrev pub DrivesPlace : design.Design → List Link → List ProcessKey → Place → Drive → Type 0
DrivesPlace d links keys p (drives.Link l) = LinkDrives links l p
DrivesPlace d links keys p (drives.Process k) = ProcessDrives d keys k p

-- what drives a place is among these
pub record HasDrive (list : List (Option Drive)) (n : ℕ) : Type 0 where
  pub drive : Drive
  pub found : slice_get list n ≡ Some (Some drive)

abbrev pub IsDriven : List Numbers → List (Option Drive) → Place → Type 0
IsDriven all list p = (n : ℕ) → number_in all p ≡ Some n → HasDrive list n

-- the places that a process assigns
abbrev pub IsDrivenBy : design.Design → List Numbers → ProcessKey → List (Option Drive) → Type 0
IsDrivenBy d all key list = (b : Process) → process_at d key ≡ Some b → (x : Name) → own b.body x ≡ true → IsDriven all list (place b.instance x)

-- what stands beside the number of a place drives it
abbrev pub AreSound : design.Design → List Link → List ProcessKey → List Numbers → List (Option Drive) → Type 0
AreSound d links keys all list =
    (p : Place) (n : ℕ) (drive : Drive) → number_in all p ≡ Some n → slice_get list n ≡ Some (Some drive) → DrivesPlace d links keys p drive

-- every place to which a link goes, and every one that a process assigns, has one
pub record AreDrives (d : design.Design) (links : List Link) (keys : List ProcessKey) (count : ℕ) (all : List Numbers) (list : List (Option Drive)) : Type 0 where
  pub long : length list ≡ count
  pub sound : AreSound d links keys all list
  pub by_link : (l : ℕ) (link : Link) → slice_get links l ≡ Some link → IsDriven all list (link_as link).0
  pub by_process : (k : ℕ) (key : ProcessKey) → slice_get keys k ≡ Some key → IsDrivenBy d all key list

-- ---- steps

-- one is put beside a number, if there is one
abbrev pub put_at : Option ℕ → Drive → List (Option Drive) → List (Option Drive)
put_at None drive list = list
put_at (Some n) drive list = slice_set list n (Some drive)

-- more that drive places; those that had one have one
pub record Grows (d : design.Design) (links : List Link) (keys : List ProcessKey) (all : List Numbers) (old new : List (Option Drive)) : Type 0 where
  pub long : length new ≡ length old
  pub sound : AreSound d links keys all old → AreSound d links keys all new
  pub kept : (p : Place) → IsDriven all old p → IsDriven all new p

-- and each place of these names has one
pub record Covers (d : design.Design) (links : List Link) (keys : List ProcessKey) (all : List Numbers) (i : ℕ) (names : Known) (old new : List (Option Drive)) : Type 0 where
  pub grows : Grows d links keys all old new
  pub driven : (x : Name) → names x ≡ true → IsDriven all new (place i x)

-- each link before this one has one
abbrev pub LinksBefore : List Link → List Numbers → ℕ → List (Option Drive) → Type 0
LinksBefore links all l list = (j : ℕ) (link : Link) → j < l → slice_get links j ≡ Some link → IsDriven all list (link_as link).0

-- each process before this one
abbrev pub ProcessesBefore : design.Design → List ProcessKey → List Numbers → ℕ → List (Option Drive) → Type 0
ProcessesBefore d keys all k list = (j : ℕ) (key : ProcessKey) → j < k → slice_get keys j ≡ Some key → IsDrivenBy d all key list
